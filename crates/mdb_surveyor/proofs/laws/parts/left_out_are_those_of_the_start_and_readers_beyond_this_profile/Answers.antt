-- Who is left out stays so, and why readers come to be.
use Rattle.mdb_surveyor.proofs.Parts.{last_asked, last_stays, last_why}
use Rattle.mdb_surveyor.proofs.laws.parts.left_out_are_those_of_the_start_and_readers_beyond_this_profile.Goals as goal

pub returns : goal.returns
returns c = record { stays = last_stays; why = last_why; asked = last_asked }

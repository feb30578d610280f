-- The pieces that are shown are the same in each form.
use Rattle.mdb_show.proofs.OneShowing.{in_other_form}
use Rattle.mdb_show.proofs.laws.texts_are_shown_alike_in_all_forms.Goals as goal

pub returns : goal.returns
returns c = in_other_form

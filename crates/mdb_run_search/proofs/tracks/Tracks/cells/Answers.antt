-- The cell at the place of each device is that of the device's track.
use Rattle.mdb_run_search.proofs.Words.{refl, ◌≡◌, [], ◌∷◌, cell_in, track_in, each}
use Rattle.mdb_run_search.proofs.tracks.Tracks.cells.Goals as goal

pub returns : goal.returns
returns c =
    let tracks = c.args.self.now in
    each (λ device. cell_in (tracks.changer.cell ∷ tracks.bill.cell ∷ tracks.first_reader.cell
    ∷ tracks.second_reader.cell ∷ []) device ≡ (track_in tracks device).cell)
    refl refl refl refl

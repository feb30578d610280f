-- The pieces without further devices have the same rows.
use Rattle.mdb_show.proofs.Words.{refl, lines_of, ◌∙◌}
use Rattle.mdb_bus.specs.LeavingOut.{leave_out}
use Rattle.mdb_show.proofs.laws.whole_texts_are_shown_whole_without_further_devices.Goals as goal
use Rattle.mdb_verdict.proofs.Ends.{whole_as}

pub returns : goal.returns
returns c form less more records text leaves is =
    let its = is.has in
    let order = c.pieces_stay_in_order_without_further_devices.ensures in (
      lines_of form (leave_out more its.pieces),
      whole_as is (record {
        pieces = leave_out more its.pieces;
        list = record {
          in_order = order.order less more its.pieces leaves its.list.in_order;
          whole = order.rows more its.pieces ∙ its.list.whole;
        };
        lines = refl;
      }),
    )

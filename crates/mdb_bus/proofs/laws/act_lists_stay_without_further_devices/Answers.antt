-- Without further devices, pieces stay in order and keep their rows.
use Rattle.mdb_bus.proofs.Words.{◌∙◌}
use Rattle.mdb_bus.proofs.laws.act_lists_stay_without_further_devices.Goals as goal

pub returns : goal.returns
returns c less more rows pieces wider list =
    let stay = c.pieces_stay_in_order_without_further_devices.ensures in
    record {
      in_order = stay.order less more pieces wider list.in_order;
      whole = stay.rows more pieces ∙ list.whole;
    }

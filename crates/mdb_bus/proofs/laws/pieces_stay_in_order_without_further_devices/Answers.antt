-- What is of a device that is left out becomes foreign acts of the same rows, which may stand
-- there.
use Rattle.mdb_bus.proofs.LeftOutOrder.{in_order, same_rows, where_without}
use Rattle.mdb_bus.proofs.laws.pieces_stay_in_order_without_further_devices.Goals as goal

pub returns : goal.returns
returns c = record {
  order = λ less more pieces wider order.
      in_order c.first_byte_tells_the_device.ensures less more wider pieces order;
  rows = same_rows;
  position = where_without;
}

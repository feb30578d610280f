-- The best way of the device of an arm is that of the device.
use Rattle.mdb_run_search.proofs.explain.all_paths.AllPaths.best.Goals as goal

pub returns-in-Changer : goal.returns-in-Changer
returns-in-Changer c = rw c.in-Changer.is c.best_of.ensures

pub returns-in-Bill : goal.returns-in-Bill
returns-in-Bill c = rw c.in-Bill.is c.best_of-in-Bill.ensures

pub returns-in-First : goal.returns-in-First
returns-in-First c = rw (c.in-Reader.is, c.in-First.is) c.best_of-in-First.ensures

pub returns-in-Second : goal.returns-in-Second
returns-in-Second c = rw (c.in-Reader.is, c.in-Second.is) c.best_of-in-Second.ensures

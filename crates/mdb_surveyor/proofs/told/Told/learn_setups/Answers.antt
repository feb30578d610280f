-- What SETUP config tells.
use Rattle.mdb_surveyor.proofs.told.Told.learn_setups.Goals as goal

pub returns-in-Ask-Reader-default-SetupConfig : goal.returns-in-Ask-Reader-default-SetupConfig
returns-in-Ask-Reader-default-SetupConfig c =
    rw c.in-Ask-Reader-default-SetupConfig.is (c.learn_ask.ensures c.args.profile)

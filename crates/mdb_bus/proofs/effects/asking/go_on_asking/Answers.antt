-- A word inside a block of the controller has the effect of a second byte or of a further one.
use Rattle.mdb_bus.proofs.Words.{Extended, profile_of, refl, rules}
use Rattle.mdb_bus.proofs.Verdicts.{asking_belongs, going_by}
use Rattle.mdb_bus.proofs.effects.asking.go_on_asking.Goals as goal

pub returns-in-len1 : goal.returns-in-len1
returns-in-len1 c = record {
  effect = λ levels known followed. going_by c.args.scope.now c.args.bytes.now c.args.last.now
      c.args.at c.args.word levels c.requires.in_order (search rules) (search rules)
      c.first_byte_tells_the_device.ensures c.requires.begun followed c.args.times
      c.second_byte.result (search rules) (search rules) c.second_byte.ensures;
  belongs = asking_belongs c.front_of_a_command_is_open.ensures
      (profile_of c.args.scope.now.begins) c.args.bytes.now c.args.at c.args.word
      c.second_byte.result c.second_byte.ensures;
}

pub returns-in_default : goal.returns-in_default
returns-in_default c = record {
  effect = λ levels known followed. going_by c.args.scope.now c.args.bytes.now c.args.last.now
      c.args.at c.args.word levels c.requires.in_order (search rules) (search rules)
      c.first_byte_tells_the_device.ensures c.requires.begun followed c.args.times
      c.further_byte.result (search rules) (search rules)
      (c.further_byte.ensures (profile_of c.args.scope.now.begins) known);
  belongs = asking_belongs c.front_of_a_command_is_open.ensures Extended c.args.bytes.now c.args.at
      c.args.word c.further_byte.result (c.further_byte.ensures Extended refl);
}

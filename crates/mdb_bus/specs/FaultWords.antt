-- The words of rules and blames in what is printed (this profile).
use Rattle.std.specs.Prelude.{ℕ, List, codes}
use Rattle.mdb_msgs.specs.declared.command.Device.TheVariants as device
use Rattle.mdb_msgs.specs.declared.command.ReaderUnit.TheVariants.{First, Second}
use Rattle.mdb_msgs.specs.Devices.{device_word}
use Rattle.mdb_bus.specs.declared.fault.Blame.{Blame}
use Rattle.mdb_bus.specs.declared.fault.Blame.TheVariants as blame
use Rattle.mdb_bus.specs.declared.fault.Rule.{Rule}
use Rattle.mdb_bus.specs.declared.fault.Rule.TheVariants as rule

-- the word of a rule
abbrev pub rule_word : Rule → List ℕ
rule_word rule.Order = codes "Order"
rule_word rule.Speaker = codes "Speaker"
rule_word rule.Mode = codes "Mode"
rule_word rule.Early = codes "Early"
rule_word rule.Late = codes "Late"
rule_word rule.Spacing = codes "Spacing"
rule_word rule.Length = codes "Length"
rule_word rule.Sum = codes "Sum"
rule_word rule.Break = codes "Break"
rule_word rule.Answer = codes "Answer"
rule_word rule.Message = codes "Message"
rule_word rule.Same = codes "Same"
rule_word rule.Profile = codes "Profile"
rule_word rule.Changer = codes "Changer"
rule_word rule.Bill = codes "Bill"
rule_word rule.Cashless = codes "Cashless"

-- the word of who is to blame: a device's is that of the device
abbrev pub blame_word : Blame → List ℕ
blame_word blame.Controller = codes "controller"
blame_word blame.Changer = device_word device.Changer
blame_word blame.Bill = device_word device.Bill
blame_word blame.Cashless = device_word (device.Reader First)
blame_word blame.Cashless2 = device_word (device.Reader Second)
blame_word blame.Other = codes "other"

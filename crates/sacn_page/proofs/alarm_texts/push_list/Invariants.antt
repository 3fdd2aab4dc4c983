use Rattle.std.proofs.Common.{◌≡◌, ◌++◌, drop, codes, string_bytes}
use Rattle.std.specs.List.{flat_map}
use Rattle.sacn_page.specs.AlarmTexts.{alarm_object, alarm_list}
use Rattle.sacn_page.proofs.alarm_texts.push_list.Given as goal

-- what is written, and then the alarms that are left, is all
abbrev pub invariant-loop-alarm : goal.invariant-loop-alarm
invariant-loop-alarm l = string_bytes l.text ++ flat_map (λ a. codes "," ++ alarm_object l.streams a) (drop l.alarm-index l.rest) ≡ string_bytes l.fn.text ++ alarm_list l.streams l.alarms

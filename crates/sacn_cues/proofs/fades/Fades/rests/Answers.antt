use Rattle.std.proofs.Common.{rules, ◌≡◌, ◌-◌, ◌<◌, false, length, ◌∙◌, subst}
use Rattle.std.proofs.lemmas.List.{get_or_default}
use Rattle.sacn_cues.specs.Levels.{Running, StaysAt, still}
use Rattle.sacn_cues.specs.Channels.{is_channel}
use Rattle.sacn_cues.proofs.Stillness.{channel_stays, outside_stays}
use Rattle.sacn_cues.proofs.fades.Fades.rests.Goals as goal

pub returns-then-is_channel : goal.returns-then-is_channel
returns-then-is_channel c over =
    let lt : c.args.channel - 1 < length c.self.inside.fades.items = search rules in
    subst (λ (r : Running). StaysAt r.fades c.args.channel c.args.now) c.self.view_is
    (channel_stays c.self.inside.fades.items c.args.channel c.args.now c.index.result.now (c.index.ensures ∙ get_or_default c.self.inside.fades.items (c.args.channel - 1) _ still lt) (c.rests.ensures over))

pub returns-else-is_channel : goal.returns-else-is_channel
returns-else-is_channel c told =
    let outside : is_channel c.args.channel ≡ false = cc in
    outside_stays c.args.self.now.fades c.args.channel c.args.now outside

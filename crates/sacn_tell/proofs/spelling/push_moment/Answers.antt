use Rattle.std.proofs.Common.{ℕ, refl, ap, drop, sym, subst, ◌∙◌}
use Rattle.std.specs.Str.{IsAscii}
use Rattle.std.proofs.lemmas.Str.{IsAscii-take}
use Rattle.sacn_tell.proofs.PlaceDigits.{moment_is, moment_ascii, up_to_the_end}
use Rattle.sacn_tell.proofs.spelling.push_moment.Goals as goal

pub push_ascii-requires : goal.push_ascii-requires
push_ascii-requires c =
    let told = c.put_seconds-start.ensures in
    let is = ap (λ (n : ℕ). drop n c.put_seconds-start.new.room) c.min.ensures ∙ moment_is c.args.moment _ _ _ told.place told.before refl told.written in
    IsAscii-take _ _ (subst IsAscii (sym is) (moment_ascii c.args.moment c.ranges.moment.fits))

pub returns : goal.returns
returns c =
    let told = c.put_seconds-start.ensures in
    let is = ap (λ (n : ℕ). drop n c.put_seconds-start.new.room) c.min.ensures ∙ moment_is c.args.moment _ _ _ told.place told.before refl told.written in
    rw (up_to_the_end c.min.result _ _ c.put_seconds-start.array_long is) at c.push_ascii.ensures

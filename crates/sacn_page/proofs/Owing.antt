-- What is owed is later than what was given.
use Rattle.std.proofs.Common.{◌≡◌, ◌<◌, ◌==◌, inl, inr, ℕ, nat_le, Bool, true, false, cond, length, refl, ◌∙◌, arith}
use Rattle.std.proofs.lemmas.Bool.{leb-false}
use Rattle.sacn_page.specs.declared.feed.Feed.{Feed}
use Rattle.sacn_page.specs.declared.feed.Owed.{Owed}
use Rattle.sacn_page.specs.declared.feed.Owed.TheVariants.{Nothing, Change, Whole}
use Rattle.sacn_page.specs.Feeds.{IsFollowed, owed, owed_text}

later_by : (b : Bool) (latest seen : ℕ) (other : Owed) (f : Feed) → nat_le latest seen ≡ b → 0 < length (owed_text (cond b Nothing other) f) → seen < latest
later_by true latest seen other f is some = absurd (omega (arith, some))
later_by false latest seen other f is some = leb-false latest seen is

-- where a viewer is owed octets, they are those of a later event
pub later_than : (latest before seen : ℕ) (f : Feed) → 0 < length (owed_text (owed latest before seen) f) → seen < latest
later_than latest before seen f some = later_by (nat_le latest seen) latest seen (cond (seen == 0) Whole (cond (seen == before) Change Whole)) f refl some

-- ---- a further event

pub followed : (number : ℕ) (old new : Feed) → new.latest ≡ number → new.before ≡ old.latest → IsFollowed number old new
unfolding IsFollowed
followed number old new latest before = inl (latest, before)

pub not_followed : (number : ℕ) (old new : Feed) → new.latest ≡ old.latest → new.before ≡ old.before → new.change ≡ old.change → IsFollowed number old new
unfolding IsFollowed
not_followed number old new latest before change = inr (latest, before, change)

-- what says no more of it
pub followed_as : (number : ℕ) (old mid new : Feed) → IsFollowed number old mid → new.latest ≡ mid.latest → new.before ≡ mid.before → new.change ≡ mid.change → IsFollowed number old new
unfolding IsFollowed
followed_as number old mid new (inl is) latest before change = inl (latest ∙ is.0, before ∙ is.1)
followed_as number old mid new (inr is) latest before change = inr (latest ∙ is.0, before ∙ is.1, change ∙ is.2)

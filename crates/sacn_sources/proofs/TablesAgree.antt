-- The contract's table of answers is the plain rule's.
use Rattle.std.proofs.Common.{◌≡◌, Bool, true, false, refl}
use Rattle.sacn_sources.specs.Rows.{Kind, Termination, Preview, Live, Other, Taken, Held, Observed, EndedNow, OutOfSequence, SourcesExceeded, UnknownIgnored, take_unknown, take_known, renews}
use Rattle.sacn_sources.specs.PlainRule.{unknown_answer, known_answer, is_renewed_by}

pub same_unknown : (kind : Kind) (room : Bool) → take_unknown kind room ≡ unknown_answer kind room
same_unknown Live true = refl
same_unknown Live false = refl
same_unknown Termination room = refl
same_unknown Preview room = refl
same_unknown Other room = refl

pub same_known : (kind : Kind) (late : Bool) → take_known kind late ≡ known_answer kind late
same_known kind true = refl
same_known Termination false = refl
same_known Preview false = refl
same_known Live false = refl
same_known Other false = refl

pub same_renewal : (taken : Taken) → renews taken ≡ is_renewed_by taken
same_renewal Held = refl
same_renewal EndedNow = refl
same_renewal Observed = refl
same_renewal OutOfSequence = refl
same_renewal SourcesExceeded = refl
same_renewal UnknownIgnored = refl

-- Calls behind calls.
use Rattle.std.proofs.Common.{◌≡◌, ℕ, suc, ◌+◌, Bool, List, [], ◌∷◌, ◌++◌, Option, append_assoc, append-nil, refl, sym, ap, subst, ◌∙◌, arith}
use Rattle.std.proofs.lemmas.List.{map-append}
use Rattle.sacn_edge.specs.Additions.{Extends}
use Rattle.sacn_edge.specs.ConsoleSends.{Handed, datagrams}
use Rattle.sacn_played_source.specs.Played.{Played}
use Rattle.sacn_played_source.specs.Calls.{Call, step}
use Rattle.sacn_replay.specs.Runs.{Player, played}
use Rattle.sacn_replay.specs.Talks.{Talk}
use Rattle.sacn_played_run.specs.Calls.{after, given_at, given_by}
use Rattle.sacn_played_run.specs.Taking.{calls_at, due_calls}
use Rattle.sacn_played_run.specs.Endings.{EndRound, end_talk}

pub after_both : (a b : List Call) (s : Played) → after (a ++ b) s ≡ after a (after b s)
after_both [] b s = refl
after_both (call ∷ a) b s = ap (step call) (after_both a b s)

pub given_both : (a b : List Call) (s : Played) → given_by (a ++ b) s ≡ given_by b s ++ given_by a (after b s)
given_both [] b s = sym (append-nil (given_by b s))
given_both (call ∷ a) b s =
    ap (λ (xs : List (List ℕ)). xs ++ given_at call (after (a ++ b) s)) (given_both a b s)
    ∙ ap (λ (t : Played). (given_by b s ++ given_by a (after b s)) ++ given_at call t) (after_both a b s)
    ∙ append_assoc (given_by b s) (given_by a (after b s)) (given_at call (after a (after b s)))

-- a source after some calls, and after more
module _ (a b : List Call) (s t : Played) (was : t ≡ after b s) where
  pub after_more : (u : Played) → u ≡ after a t → u ≡ after (a ++ b) s
  after_more u is = is ∙ ap (after a) was ∙ sym (after_both a b s)

  pub given_more : (hs ms : Handed) → datagrams hs ≡ given_by b s → datagrams ms ≡ given_by a t → datagrams (hs ++ ms) ≡ given_by (a ++ b) s
  given_more hs ms sofar more =
      map-append (λ (h : List ℕ × Bool). h.0) hs ms
      ∙ ap (λ (os : List (List ℕ)). os ++ datagrams ms) sofar
      ∙ ap (λ (os : List (List ℕ)). given_by b s ++ os) (more ∙ ap (given_by a) was)
      ∙ sym (given_both a b s)

-- one step more
pub taken_more : (now n : ℕ) (p : Player) (s t u : Played) → t ≡ after (due_calls now n p) s → u ≡ after (calls_at now (played now n p)) t → u ≡ after (due_calls now (n + 1) p) s
taken_more now n p s t u was is =
    let more : suc n ≡ n + 1 = omega arith in
    after_more (calls_at now (played now n p)) (due_calls now n p) s t was u is ∙ ap (λ (m : ℕ). after (due_calls now m p) s) more

-- what an end says, of a source that is told so
pub told_end : (a b : Option (List Talk)) (es : List EndRound) (s t : Played) → s ≡ t → Extends a b (end_talk es s) → Extends a b (end_talk es t)
told_end a b es s t is told = subst (λ (x : Played). Extends a b (end_talk es x)) is told

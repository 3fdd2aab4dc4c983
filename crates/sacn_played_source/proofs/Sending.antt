-- A loop that hands the merge of each universe to the source.
use Rattle.std.proofs.Common.{◌≡◌, ℕ, ◌+◌, ◌<◌, ◌++◌, ◌∷◌, List, map, length, take, drop, get_or, ap, sym, ◌∙◌, arith}
use Rattle.std.proofs.lemmas.List.{length-map, length-take, get_or_at, drop_more}
use Rattle.sacn_source.specs.Source.{Source}
use Rattle.sacn_played_source.specs.declared.played_universe.PlayedUniverse.{PlayedUniverse}
use Rattle.sacn_played_source.specs.Universes.{merged, sent_from, all_sent}

-- in a list whose first i are mapped, the next is as it was
pub next_read : {X : Type 0} (f : X → X) (xs ys : List X) (i : ℕ) (d : X) → i < length xs → ys ≡ map f (take i xs) ++ drop i xs → get_or ys i d ≡ get_or xs i d
next_read f xs ys i d lt is =
    ap (λ l. get_or l i d) (is ∙ ap (λ l. map f (take i xs) ++ l) (drop_more xs i d lt))
    ∙ get_or_at (map f (take i xs)) (get_or xs i d) (drop (i + 1) xs) d i (omega (arith, length-map (take i xs) f, length-take i xs))

-- after the universe at i what is left to send is what is behind it
pub sent_next : (moment : ℕ) (os ys : List PlayedUniverse) (i : ℕ) (d : PlayedUniverse) (c : Source) → i < length os → ys ≡ map (merged moment) (take i os) ++ drop i os
    → all_sent (map (merged moment) (drop (i + 1) os)) (sent_from (merged moment (get_or ys i d)) c) ≡ all_sent (map (merged moment) (drop i os)) c
sent_next moment os ys i d c lt is =
    ap (λ o. all_sent (map (merged moment) (drop (i + 1) os)) (sent_from (merged moment o) c)) (next_read (merged moment) os ys i d lt is)
    ∙ sym (ap (λ (l : List PlayedUniverse). all_sent (map (merged moment) l) c) (drop_more os i d lt))

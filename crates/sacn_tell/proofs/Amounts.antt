-- The counts that are kept stream by stream are the sums, each at most what 64 bits hold.
use Rattle.std.proofs.Common.{◌≡◌, ℕ, ◌+◌, ◌-◌, ◌^◌, min, List, [], ◌∷◌, refl, ap, ◌∙◌, arith}
use Rattle.std.specs.List.{fold}
use Rattle.sacn_monitor.specs.declared.stream.Stream.{Stream}
use Rattle.sacn_monitor.specs.Kinds.{more, total}
use Rattle.sacn_monitor.specs.Streams.{state_of}
use Rattle.sacn_tell.specs.declared.table_rows.UniverseCounts.{UniverseCounts}
use Rattle.sacn_tell.specs.Amounts.{sending_in, amount, with_stream}

abbrev pub no_counts : UniverseCounts
no_counts = record { sources = 0; sending = 0; taken = 0; skipped = 0; discarded = 0 }

-- counts without a bound, with one stream more
abbrev plus : ℕ → UniverseCounts → Stream → UniverseCounts
plus t c s = record {
  sources = c.sources + 1;
  sending = c.sending + sending_in (state_of t s);
  taken = c.taken + total s.account.kinds;
  skipped = c.skipped + s.account.skipped;
  discarded = c.discarded + (s.account.late + s.account.repeats);
}

abbrev capped : UniverseCounts → UniverseCounts
capped c = record {
  sources = min c.sources (2 ^ 64 - 1);
  sending = min c.sending (2 ^ 64 - 1);
  taken = min c.taken (2 ^ 64 - 1);
  skipped = min c.skipped (2 ^ 64 - 1);
  discarded = min c.discarded (2 ^ 64 - 1);
}

more_capped : (k n : ℕ) → more k (min n (2 ^ 64 - 1)) ≡ min (n + k) (2 ^ 64 - 1)
more_capped k n = omega arith

more_twice : (r l n : ℕ) → more (more r l) (min n (2 ^ 64 - 1)) ≡ min (n + (l + r)) (2 ^ 64 - 1)
more_twice r l n = omega arith

abbrev of_five : ℕ → ℕ → ℕ → ℕ → ℕ → UniverseCounts
of_five a b c d e = record { sources = a; sending = b; taken = c; skipped = d; discarded = e }

same_five : (a b c d e v w x y z : ℕ) → a ≡ v → b ≡ w → c ≡ x → d ≡ y → e ≡ z → of_five a b c d e ≡ of_five v w x y z
same_five a b c d e v w x y z p q r s t =
    ap (λ (n : ℕ). of_five n b c d e) p ∙ ap (λ (n : ℕ). of_five v n c d e) q ∙ ap (λ (n : ℕ). of_five v w n d e) r
    ∙ ap (λ (n : ℕ). of_five v w x n e) s ∙ ap (λ (n : ℕ). of_five v w x y n) t

one_more : (t : ℕ) (c : UniverseCounts) (s : Stream) → with_stream t (capped c) s ≡ capped (plus t c s)
one_more t c s =
    same_five _ _ _ _ _ _ _ _ _ _ (more_capped 1 c.sources) (more_capped (sending_in (state_of t s)) c.sending) (more_capped (total s.account.kinds) c.taken)
    (more_capped s.account.skipped c.skipped) (more_twice s.account.repeats s.account.late c.discarded)

folded : (t : ℕ) (c : UniverseCounts) (ss : List Stream) → fold (with_stream t) (capped c) ss ≡ capped (fold (plus t) c ss)
folded t c [] = refl
folded t c (s ∷ ss) = ap (λ (x : UniverseCounts). fold (with_stream t) x ss) (one_more t c s) ∙ folded t (plus t c s) ss

summed : (t : ℕ) (c : UniverseCounts) (ss : List Stream)
    → fold (plus t) c ss ≡ record {
      sources = fold (λ a s. a + 1) c.sources ss;
      sending = fold (λ a s. a + sending_in (state_of t s)) c.sending ss;
      taken = fold (λ a s. a + total s.account.kinds) c.taken ss;
      skipped = fold (λ a s. a + s.account.skipped) c.skipped ss;
      discarded = fold (λ a s. a + (s.account.late + s.account.repeats)) c.discarded ss;
    }
summed t c [] = refl
summed t c (s ∷ ss) = summed t (plus t c s) ss

pub amount_is : (t : ℕ) (ss : List Stream) → fold (with_stream t) no_counts ss ≡ amount t ss
amount_is t ss = folded t no_counts ss ∙ ap capped (summed t no_counts ss)

-- A packet is that of a frame where its parts are.
use Rattle.std.proofs.Common.{◌≡◌, ℕ, ◌+◌, ◌≤◌, ◌&&◌, Bool, true, false, zero, suc, List, [], ◌∷◌, ◌++◌, length, take, drop, nat_eq, refl, sym, ap, ◌∙◌, arith}
use Rattle.std.proofs.lemmas.List.{drop-drop, length-drop, take_all}
use Rattle.sacn_node.specs.Showings.{same}

and_again : (a b c : Bool) → (a && (b && c)) ≡ ((a && b) && c)
and_again true b c = refl
and_again false b c = refl

same_parted : (n : ℕ) (xs ys zs : List ℕ) → length ys ≡ n → same xs (ys ++ zs) ≡ (same (take n xs) ys && same (drop n xs) zs)
unfolding same
same_parted zero xs [] zs long = refl
same_parted zero xs (y ∷ ys) zs long = absurd (omega (arith, long))
same_parted (suc n) xs [] zs long = absurd (omega (arith, long))
same_parted (suc n) [] (y ∷ ys) zs long = refl
same_parted (suc n) (x ∷ xs) (y ∷ ys) zs long =
    ap (λ b. nat_eq x y && b) (same_parted n xs ys zs (omega (arith, long))) ∙ and_again (nat_eq x y) (same (take n xs) ys) (same (drop n xs) zs)

-- a start, a frame of n octets, and an end of one
pub same_in_parts : (k n e : ℕ) (packet start frame end : List ℕ) → length start ≡ k → length frame ≡ n → k + n ≡ e → length packet ≡ e + 1
    → same packet (start ++ (frame ++ end)) ≡ ((same (take k packet) start && same (take n (drop k packet)) frame) && same (take 1 (drop e packet)) end)
same_in_parts k n e packet start frame end few long at all =
    let rest : length (drop e packet) ≤ 1 = omega (arith, length-drop e packet, all) in
    let last : drop n (drop k packet) ≡ take 1 (drop e packet) = drop-drop n k packet ∙ ap (λ j. drop j packet) at ∙ sym (take_all 1 (drop e packet) rest) in
    same_parted k packet start (frame ++ end) few
    ∙ ap (λ b. same (take k packet) start && b) (same_parted n (drop k packet) frame end long)
    ∙ and_again (same (take k packet) start) (same (take n (drop k packet)) frame) (same (drop n (drop k packet)) end)
    ∙ ap (λ l. (same (take k packet) start && same (take n (drop k packet)) frame) && same l end) last

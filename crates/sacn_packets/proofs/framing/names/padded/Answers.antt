use Rattle.std.proofs.Common.{ℕ, List, ◌++◌, length, drop, replicate, ap, ◌∙◌, zero-add}
use Rattle.std.proofs.lemmas.List.{drop-replicate}
use Rattle.sacn_packets.proofs.framing.names.padded.Goals as goal

pub returns : goal.returns
returns c =
    let octets : List ℕ = c.args.octets.now in
    c.put.ensures ∙ ap (λ (n : ℕ). octets ++ drop n (replicate {A = ℕ} 64 0)) (zero-add (length octets)) ∙ ap (λ (xs : List ℕ). octets ++ xs) (drop-replicate {X = ℕ} (length octets) 64 0)

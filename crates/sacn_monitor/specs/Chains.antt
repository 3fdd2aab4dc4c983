-- Streams in chains, by their universes and sources: each chain leads from its latest stream down to its first. A mark is one more than the place
-- of a stream, and 0 marks none.
use Rattle.std.specs.Prelude.{◌≡◌, ◌<◌, ◌+◌, ◌*◌, ◌/◌, ◌%◌, ◌^◌, ◌==◌, ℕ, zero, suc, false, List, length, get_or, if◌then◌else◌}
use Rattle.std.specs.Int.{w128, from_be_bytes}
use Rattle.std.specs.List.{AllPairs}
use Rattle.sacn_monitor.specs.declared.limits.TheConstants.{CHAINS, FRONT_FACTOR, BACK_FACTOR, UNIVERSE_FACTOR}
use Rattle.sacn_monitor.specs.declared.stream.Stream.{Stream}
use Rattle.sacn_monitor.specs.Streams.{is_of}

-- a product, and a sum, in 64 bits
abbrev pub product : ℕ → ℕ → ℕ
product a b = a * b % 2 ^ 64

abbrev pub total : ℕ → ℕ → ℕ
total a b = (a + b) % 2 ^ 64

-- a sum of products, to which all of the number that a CID is and of a universe add
abbrev pub sum_of : ℕ → ℕ → ℕ
sum_of universe cid = total (total (product (cid / 2 ^ 64) FRONT_FACTOR) (product (cid % 2 ^ 64) BACK_FACTOR)) (product universe UNIVERSE_FACTOR)

-- the high bits of the product of a number with its own upper half
abbrev pub chain_in : ℕ → ℕ
chain_in sum = product sum (sum / 2 ^ 32) / 2 ^ 54

-- the chain of a source, by the number that its CID is, on a universe
abbrev pub chain_by_number : ℕ → ℕ → ℕ
chain_by_number universe cid = chain_in (sum_of universe cid)

abbrev pub chain_by : ℕ → List ℕ → ℕ
chain_by universe cid = chain_by_number universe (from_be_bytes w128 cid)

-- the chain that a stream is in
abbrev pub chain_of : Stream → ℕ
chain_of s = chain_by s.universe s.cid

-- the mark of the latest of the first n streams that is in a chain
abbrev pub latest_in : ℕ → ℕ → List ℕ → ℕ
latest_in chain zero chains = 0
latest_in chain (suc n) chains = if get_or chains n 0 == chain then suc n else latest_in chain n chains

-- each chain begins at its latest stream, and goes on from each stream to the latest one before it
pub record AreChained (latest before chains : List ℕ) : Type 0 where
  pub begins : (chain : ℕ) → chain < CHAINS → get_or latest chain 0 ≡ latest_in chain (length chains) chains
  pub goes_on : (place : ℕ) → place < length chains → get_or before place 0 ≡ latest_in (get_or chains place 0) place chains
  pub chained : length latest ≡ CHAINS
  pub counted : length before ≡ length chains

-- no stream has the universe and the source of an earlier one
abbrev pub AreDistinct : List Stream → Type 0
AreDistinct ss = AllPairs (λ earlier later. is_of later.universe later.cid earlier ≡ false) ss

-- A packet that goes on as the one before it tells nothing.
use Rattle.std.proofs.Common.{rules, ◌≡◌, ℕ, ◌-◌, ◌*◌, ◌%◌, ◌^◌, Bool, true, false, not, ◌&&◌, ◌||◌, ◌==◌, ltb, cond, List, None, max, refl, sym, ap, ◌∙◌, arith}
use Rattle.std.proofs.lemmas.Bool.{eqb-true}
use Rattle.std.proofs.lemmas.Slice.Eq.{bytes_eq-Decides}
use Rattle.std.specs.List.{before_first}
use Rattle.std.specs.Str.{bytes_eq}
use Rattle.sacn_packets.specs.Data.{Data}
use Rattle.sacn_sources.specs.declared.kind.Kind.{Kind}
use Rattle.sacn_sources.specs.declared.kind.Kind.TheVariants.{Live}
use Rattle.sacn_sources.specs.Packets.{kind_of}
use Rattle.sacn_monitor.specs.declared.account.Account.{Account}
use Rattle.sacn_monitor.specs.declared.account.Endpoint.{Endpoint}
use Rattle.sacn_monitor.specs.declared.holding.Holding.{Holding}
use Rattle.sacn_monitor.specs.declared.holding.Holding.TheVariants.{Levels}
use Rattle.sacn_monitor.specs.declared.news.StreamEvent.TheVariants.{GoesOn}
use Rattle.sacn_monitor.specs.declared.numbering.Numbering.{Numbering}
use Rattle.sacn_monitor.specs.Holdings.{held_after, is_relit}
use Rattle.sacn_monitor.specs.Kinds.{more, with_one_more}
use Rattle.sacn_monitor.specs.Rates.{rate_after}
use Rattle.sacn_monitor.specs.Numberings.{ahead_of, further, goes_back, omission_in}
use Rattle.sacn_monitor.specs.Accounts.{IsFitted, after_gone_on, after_taken, begins_anew, begins_apart, begins_life, changed, fitted, is_fresh, is_next, lost_at, missing_at, name_of, numbering_at, quiet, same_sender, taken_event, taken_news}

both : (a b : Bool) → a && b ≡ true → (a ≡ true) × (b ≡ true)
both true b e = (refl, e)
both false b e = absurd cc

no_end : (d : Data) → kind_of d ≡ Live → d.terminated ≡ false
no_end d live = search rules

goes_on : (t arrived : ℕ) (a : Account) → is_next t arrived a ≡ true → taken_event t false a ≡ GoesOn
goes_on t arrived a next = search rules

none_lost : (t arrived : ℕ) (a : Account) → is_next t arrived a ≡ true → lost_at t false arrived a ≡ 0
none_lost t arrived a next = search rules

no_beginning : (t arrived : ℕ) (a : Account) → is_next t arrived a ≡ true → begins_anew t arrived a ≡ false
no_beginning t arrived a next = search rules

in_order : (t arrived : ℕ) (a : Account) → is_next t arrived a ≡ true → begins_apart t false arrived a || goes_back a.sequence_number arrived ≡ false
in_order t arrived a next = search rules

by_one : (t arrived : ℕ) (a : Account) → is_next t arrived a ≡ true → ahead_of a.sequence_number arrived ≡ 1
by_one t arrived a next = search rules

one_further : (word : ℕ) → further false 1 word ≡ word * 2 ^ 1 % 2 ^ 32
one_further word = omega arith

-- what is missing lies one number further behind
moved_on : (t arrived : ℕ) (a : Account) → is_next t arrived a ≡ true → missing_at t false arrived a ≡ a.missing * 2 ^ 1 % 2 ^ 32
moved_on t arrived a next =
    ap (λ (b : Bool). cond b 0 (further (ltb 0 (lost_at t false arrived a)) (ahead_of a.sequence_number arrived) a.missing)) (in_order t arrived a next)
    ∙ ap (λ (n : ℕ). further (ltb 0 n) (ahead_of a.sequence_number arrived) a.missing) (none_lost t arrived a next)
    ∙ ap (λ (n : ℕ). further false n a.missing) (by_one t arrived a next)
    ∙ one_further a.missing

settled : (t arrived : ℕ) (a : Account) → is_next t arrived a ≡ true → numbering_at (begins_life t false a) arrived a ≡ a.numbering
settled t arrived a next = search rules

known : (n : Numbering) → omission_in n n ≡ None
known n = search rules

named : (d : Data) (a : Account) → IsFitted a.name → a.name ≡ d.name → name_of d ≡ a.name
named d a kept name = ap (λ (field : List ℕ). fitted (before_first (λ octet. octet == 0) field)) (sym name) ∙ kept.again

from_there : (a b : Endpoint) → same_sender a b ≡ true → b ≡ a
from_there a b same =
    let ends = both (bytes_eq a.address b.address) (a.port == b.port) same in
    let address = sym ((bytes_eq-Decides a.address b.address).0 ends.0) in
    let port = sym (eqb-true a.port b.port ends.1) in
    λ i. record { address = address i; port = port i }

-- ---- what it tells

news_by : (t : ℕ) (sender : Endpoint) (d : Data) (a : Account) → d.terminated ≡ false → kind_of d ≡ Live → IsFitted a.name → is_next t d.number a ≡ true → a.holding ≡ Levels a.latest d.priority → a.priority ≡ d.priority → same_sender a.sender sender ≡ true → a.name ≡ d.name → taken_news t sender d a ≡ quiet GoesOn
unfolding taken_news
news_by t sender d a goes live kept next held priority from name =
    let event : taken_event t d.terminated a ≡ GoesOn = ap (λ (b : Bool). taken_event t b a) goes ∙ goes_on t d.number a next in
    let skipped : lost_at t d.terminated d.number a ≡ 0 = ap (λ (b : Bool). lost_at t b d.number a) goes ∙ none_lost t d.number a next in
    let numbers : numbering_at (begins_life t d.terminated a) d.number a ≡ a.numbering = ap (λ (b : Bool). numbering_at (begins_life t b a) d.number a) goes ∙ settled t d.number a next in
    let leaves_out : omission_in a.numbering (numbering_at (begins_life t d.terminated a) d.number a) ≡ None = ap (omission_in a.numbering) numbers ∙ known a.numbering in
    let anew = no_beginning t d.number a next in
    let same : changed a.priority d.priority ≡ None = search rules in
    let renamed : not (bytes_eq a.name (name_of d)) ≡ false = ap not ((bytes_eq-Decides a.name (name_of d)).1 (sym (named d a kept name))) in
    let moved : not (same_sender a.sender sender) ≡ false = ap not from in
    let relit : is_relit a.latest t a.holding (held_after t (kind_of d) d.priority a.holding) ≡ false = search rules in
    λ i. record { event = event i; skipped = skipped i; began_anew = anew i; leaves_out = leaves_out i; priority = same i; renamed = renamed i; moved = moved i; relit = relit i }

pub tells_nothing : (t : ℕ) (sender : Endpoint) (d : Data) (a : Account) → IsFitted a.name → is_next t d.number a ≡ true → kind_of d ≡ Live → a.holding ≡ Levels a.latest d.priority → a.priority ≡ d.priority → same_sender a.sender sender ≡ true → a.name ≡ d.name → taken_news t sender d a ≡ quiet GoesOn
tells_nothing t sender d a kept next live = news_by t sender d a (no_end d live) live kept next

-- ---- what is kept

account_by : (t : ℕ) (sender : Endpoint) (d : Data) (a : Account) → d.terminated ≡ false → kind_of d ≡ Live → IsFitted a.name → is_next t d.number a ≡ true → a.priority ≡ d.priority → same_sender a.sender sender ≡ true → a.name ≡ d.name → after_taken t sender d a ≡ after_gone_on t d.number a
unfolding after_taken
account_by t sender d a goes live kept next priority from name =
    let there = from_there a.sender sender from in
    let field = named d a kept name in
    let ended : d.terminated ≡ a.ended = search rules in
    let kinds = ap (λ (k : Kind). with_one_more k a.kinds) live in
    let holding : held_after t (kind_of d) d.priority a.holding ≡ Levels t a.priority = search rules in
    let numbers : numbering_at (begins_life t d.terminated a) d.number a ≡ a.numbering = ap (λ (b : Bool). numbering_at (begins_life t b a) d.number a) goes ∙ settled t d.number a next in
    let lost : lost_at t d.terminated d.number a ≡ 0 = ap (λ (b : Bool). lost_at t b d.number a) goes ∙ none_lost t d.number a next in
    let skipped = ap (λ (n : ℕ). more n a.skipped) lost in
    let missing = ap (λ (b : Bool). missing_at t b d.number a) goes ∙ moved_on t d.number a next in
    λ i. record {
      sender = there i;
      name = field i;
      priority = sym priority i;
      first = a.first;
      latest = t;
      sequence_number = d.number;
      ended = ended i;
      kinds = kinds i;
      holding = holding i;
      numbering = numbers i;
      skipped = skipped i;
      missing = missing i;
      late = a.late;
      repeats = a.repeats;
      greatest_gap = max a.greatest_gap (t - a.latest);
      rate = rate_after t a.rate;
    }

pub is_taken_so : (t : ℕ) (sender : Endpoint) (d : Data) (a : Account) → IsFitted a.name → is_next t d.number a ≡ true → kind_of d ≡ Live → a.priority ≡ d.priority → same_sender a.sender sender ≡ true → a.name ≡ d.name → after_taken t sender d a ≡ after_gone_on t d.number a
is_taken_so t sender d a kept next live = account_by t sender d a (no_end d live) live kept next

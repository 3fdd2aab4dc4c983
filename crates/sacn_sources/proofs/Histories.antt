-- The steps of a table, over every history, beside the plain rule.
use Rattle.std.proofs.Common.{◌≡◌, ℕ, ◌+◌, ◌-◌, ◌^◌, min, max, nat_lt, Bool, true, false, cond, ◌||◌, List, [], ◌∷◌, length, Option, Some, None, refl, sym, ap, subst, ◌∙◌, arith}
use Rattle.std.specs.Option.{option_map}
use Rattle.std.specs.FinMap.{FinMap, get, len, empty, entries, len-entries, len-empty}
use Rattle.sacn_sources.specs.Sequence.{is_late}
use Rattle.sacn_sources.specs.Merge.{merge}
use Rattle.sacn_sources.specs.Order.{order}
use Rattle.sacn_sources.specs.declared.limits.TheConstants.{MAX_SOURCES}
use Rattle.sacn_sources.specs.Rows.{Row, Packet, Taken, Held, Observed, EndedNow, OutOfSequence, SourcesExceeded, UnknownIgnored, rows_kept, row_of, take_by, taken, observed, rows_after, take_row, layers, answer}
use Rattle.sacn_sources.specs.LatestMerge.{Kept, due_at, loses_live}
use Rattle.sacn_sources.specs.Calls.{Call, Take, Expire, Merge, Took, Expired, Slots, moment_of, step, answer_to, after_calls, moment_in_use}
use Rattle.sacn_sources.specs.PlainRule.{Entry, Sources, unexpired, live, ended_entry, renumbered, held_by, answer_for, source_row, change, held_after, answer_at, plain_rule, expires_live, renews_source, is_news, is_due, renewal_count}
use Rattle.sacn_sources.specs.Laws.{row_with, AnswersByThePlainRule, HoldsByThePlainRule, CountsRenewals}
use Rattle.sacn_sources.proofs.Mirrors.{Mirrors, row_found, put_mirrors, kept_mirrors, same_length, same_shown, same_losses}
use Rattle.sacn_sources.proofs.TablesAgree.{same_unknown, same_known, same_renewal}

-- ---- a packet

module _ (t : ℕ) (x : Packet) (rs : List Row) (held : Sources) (mirrors : Mirrors rs held) where
  packet_answer : (o : Option Entry) → take_by x (nat_lt (len held) MAX_SOURCES) (option_map (row_with x.source) o) ≡ answer_for x held o
  packet_answer None = same_unknown x.kind (nat_lt (len held) MAX_SOURCES)
  packet_answer (Some e) = same_known x.kind (is_late e.sequence_number x.sequence_number)

  packet_rows : (a : Taken) (o : Option Entry) → row_of x.source rs ≡ option_map (row_with x.source) o → Mirrors (rows_after a x t rs) (held_by a t x o held)
  packet_rows Held o there = put_mirrors rs held mirrors x.source (live x t)
  packet_rows EndedNow o there = put_mirrors rs held mirrors x.source (ended_entry x t)
  packet_rows Observed None there = subst (λ r. Mirrors (observed x r rs) held) (sym there) mirrors
  packet_rows Observed (Some e) there = subst (λ r. Mirrors (observed x r rs) (Rattle.std.specs.FinMap.insert held x.source (renumbered x e))) (sym there) (put_mirrors rs held mirrors x.source (renumbered x e))
  packet_rows OutOfSequence o there = mirrors
  packet_rows SourcesExceeded o there = mirrors
  packet_rows UnknownIgnored o there = mirrors

  pub same_answer : taken x rs ≡ (source_row t x held).answer
  same_answer =
      ap (λ n. take_by x (nat_lt n MAX_SOURCES) (row_of x.source rs)) (sym (same_length rs held mirrors))
      ∙ ap (take_by x (nat_lt (len held) MAX_SOURCES)) (row_found rs held mirrors x.source)
      ∙ packet_answer (get held x.source)

  pub same_rows : Mirrors (take_row x t rs) (source_row t x held).held
  same_rows = subst (λ a. Mirrors (rows_after a x t rs) (source_row t x held).held) (sym same_answer) (packet_rows (answer_for x held (get held x.source)) (get held x.source) (row_found rs held mirrors x.source))

-- ---- a call

module _ (k : Kept) (held : Sources) (mirrors : Mirrors k.table.rows held) where
  kept : (t : ℕ) → Mirrors (rows_kept t k.table.rows) (unexpired t held)
  kept t = kept_mirrors k.table.rows held mirrors t

  step_mirrors : (call : Call) (t : ℕ) → max k.table.moment (moment_of call) ≡ t → Mirrors (step call k).table.rows (change t call (unexpired t held))
  step_mirrors (Take now x) t is = subst (λ t. Mirrors (take_row x t (rows_kept t k.table.rows)) (change t (Take now x) (unexpired t held)) → Mirrors (step (Take now x) k).table.rows (change t (Take now x) (unexpired t held))) is (λ m. m) (same_rows t x (rows_kept t k.table.rows) (unexpired t held) (kept t))
  step_mirrors (Expire now) t is = subst (λ t. Mirrors (step (Expire now) k).table.rows (unexpired t held)) is (kept (max k.table.moment now))
  step_mirrors (Merge now) t is = subst (λ t. Mirrors (step (Merge now) k).table.rows (unexpired t held)) is (kept (max k.table.moment now))

  pub step_answer : (call : Call) (t : ℕ) → max k.table.moment (moment_of call) ≡ t → answer_to call k ≡ answer_at t call held
  step_answer (Take now x) t is =
      ap (λ m. Took (taken x (rows_kept m k.table.rows))) is
      ∙ ap (λ a. Took a) (same_answer t x (rows_kept t k.table.rows) (unexpired t held) (kept t))
  step_answer (Expire now) t is =
      ap (λ m. Expired (length k.table.rows - length (rows_kept m k.table.rows))) is
      ∙ ap (λ n. Expired (n - length (rows_kept t k.table.rows))) (sym (same_length k.table.rows held mirrors))
      ∙ ap (λ n. Expired (len held - n)) (sym (same_length (rows_kept t k.table.rows) (unexpired t held) (kept t)))
  step_answer (Merge now) t is =
      ap (λ m. Slots (merge (layers (rows_kept m k.table.rows)))) is
      ∙ ap (λ l. Slots (merge l)) (sym (same_shown (rows_kept t k.table.rows) (unexpired t held) (kept t)))

  pub step_losses : (call : Call) (t : ℕ) → max k.table.moment (moment_of call) ≡ t → loses_live (max k.table.moment (moment_of call)) k.table.rows ≡ expires_live t held
  step_losses call t is = ap (λ m. loses_live m k.table.rows) is ∙ sym (same_losses k.table.rows held mirrors t)

-- ---- a history

moment_after : (call : Call) (k : Kept) → (step call k).table.moment ≡ max k.table.moment (moment_of call)
moment_after (Take now x) k = refl
moment_after (Expire now) k = refl
moment_after (Merge now) k = refl

pub same_moment : (calls : List Call) → (after_calls calls).table.moment ≡ moment_in_use calls
same_moment [] = refl
same_moment (call ∷ earlier) = moment_after call (after_calls earlier) ∙ ap (λ m. max m (moment_of call)) (same_moment earlier)

next_moment : (call : Call) (earlier : List Call) → max (after_calls earlier).table.moment (moment_of call) ≡ moment_in_use (call ∷ earlier)
next_moment call earlier = ap (λ m. max m (moment_of call)) (same_moment earlier)

no_length : {X : Type 0} (xs : List X) → length xs ≡ 0 → xs ≡ []
no_length [] none = refl
no_length (x ∷ xs) none = absurd (omega arith)

pub same_held : (calls : List Call) → Mirrors (after_calls calls).table.rows (held_after calls)
same_held [] = no_length (entries (empty {X = Entry} {R = order})) (sym (len-entries (empty {X = Entry} {R = order})) ∙ len-empty order Entry)
same_held (call ∷ earlier) = step_mirrors (after_calls earlier) (held_after earlier) (same_held earlier) call (moment_in_use (call ∷ earlier)) (next_moment call earlier)

pub answers_by_the_plain_rule : AnswersByThePlainRule
answers_by_the_plain_rule call earlier = step_answer (after_calls earlier) (held_after earlier) (same_held earlier) call (moment_in_use (call ∷ earlier)) (next_moment call earlier)

pub holds_by_the_plain_rule : HoldsByThePlainRule
holds_by_the_plain_rule calls cid = row_found (after_calls calls).table.rows (held_after calls) (same_held calls) cid

-- ---- renewals

regrouped : (a b c : Bool) → ((a || b) || c) ≡ (a || (b || c))
regrouped true b c = refl
regrouped false b c = refl

or_false : (a : Bool) → a ≡ (a || false)
or_false true = refl
or_false false = refl

renewed_once : (most r n : ℕ) (b : Bool) → r ≡ min n most → cond b (min (r + 1) most) r ≡ min (n + cond b 1 0) most
renewed_once most r n true is = ap (λ k. min (k + 1) most) is ∙ capped most n
  where
    capped : (most n : ℕ) → min (min n most + 1) most ≡ min (n + 1) most
    capped most n = omega arith
renewed_once most r n false is =
    let same : n ≡ n + 0 = omega arith in
    is ∙ ap (λ k. min k most) same

module _ (earlier : List Call) (due : (after_calls earlier).due ≡ is_due earlier) where
  abbrev before : Kept
  before = after_calls earlier

  losses : (call : Call) → (before.due || loses_live (max before.table.moment (moment_of call)) before.table.rows) ≡ (is_due earlier || expires_live (moment_in_use (call ∷ earlier)) (held_after earlier))
  losses call =
      ap (λ b. b || loses_live (max before.table.moment (moment_of call)) before.table.rows) due
      ∙ ap (λ b. is_due earlier || b) (step_losses before (held_after earlier) (same_held earlier) call (moment_in_use (call ∷ earlier)) (next_moment call earlier))

  with_news : (call : Call) → ((before.due || loses_live (max before.table.moment (moment_of call)) before.table.rows) || renews_source (answer_to call before)) ≡ (is_due earlier || is_news call earlier)
  with_news call =
      ap (λ b. b || renews_source (answer_to call before)) (losses call)
      ∙ ap (λ a. (is_due earlier || expires_live (moment_in_use (call ∷ earlier)) (held_after earlier)) || renews_source a) (answers_by_the_plain_rule call earlier)
      ∙ regrouped (is_due earlier) (expires_live (moment_in_use (call ∷ earlier)) (held_after earlier)) (renews_source (plain_rule call earlier))

  due_after : (call : Call) → (step call before).due ≡ is_due (call ∷ earlier)
  due_after (Take now x) = ap (λ b. due_at now before || b) (same_renewal (answer now x before.table)) ∙ with_news (Take now x)
  due_after (Expire now) = or_false (due_at now before) ∙ with_news (Expire now)
  due_after (Merge now) = refl

  renewals_after : (call : Call) → before.renewals ≡ min (renewal_count earlier) (2 ^ 64 - 1) → (step call before).renewals ≡ min (renewal_count (call ∷ earlier)) (2 ^ 64 - 1)
  renewals_after (Take now x) is = renewed_once (2 ^ 64 - 1) before.renewals (renewal_count earlier) false is
  renewals_after (Expire now) is = renewed_once (2 ^ 64 - 1) before.renewals (renewal_count earlier) false is
  renewals_after (Merge now) is =
      ap (λ b. cond b (min (before.renewals + 1) (2 ^ 64 - 1)) before.renewals) (or_false (due_at now before) ∙ with_news (Merge now))
      ∙ renewed_once (2 ^ 64 - 1) before.renewals (renewal_count earlier) (is_due earlier || is_news (Merge now) earlier) is

pub same_due : (calls : List Call) → (after_calls calls).due ≡ is_due calls
same_due [] = refl
same_due (call ∷ earlier) = due_after earlier (same_due earlier) call

pub counts_renewals : CountsRenewals
counts_renewals [] = refl
counts_renewals (call ∷ earlier) = renewals_after earlier (same_due earlier) call (counts_renewals earlier)

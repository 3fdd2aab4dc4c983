-- What a teller told, call by call.
use Rattle.std.proofs.Common.{◌≡◌, ℕ, List, [], ◌++◌, Option, None, Some, Result, Ok, Err, OnOk, codes, string_bytes, refl, sym, ap, ◌∙◌, append_assoc, append-nil, subst}
use Rattle.std.specs.Io.KnownBytes.{Appends, append_known}
use Rattle.std.proofs.KnownBytes.{Appends-nil, Appends-trans}
use Rattle.std.specs.Borrow.{MutBor}
use Rattle.sacn_tell.specs.declared.options.Form.{Form}
use Rattle.sacn_tell.specs.declared.teller.Teller.{Teller}
use Rattle.sacn_tell.specs.Tellings.{Tells, with_line_end, told_octets}

-- a line grows
pub pushed : (known : Option (List ℕ)) (old new more : List ℕ) → new ≡ old ++ more → Appends (append_known known old) (append_known known new) more
pushed None old new more is = tt
pushed (Some xs) old new more is = ap (λ (t : List ℕ). xs ++ t) is ∙ sym (append_assoc xs old more)

-- a line and its end are written
pub written : (a b : Option (List ℕ)) (line whole new : List ℕ) → Appends a b whole → whole ≡ line ++ codes "\n" → new ≡ [] → Appends (append_known a line) (append_known b new) (codes "\n")
written None b line whole new all is none = tt
written (Some xs) None line whole new all is none = absurd all
written (Some xs) (Some ys) line whole new all is none =
    ap (λ (t : List ℕ). ys ++ t) none ∙ append-nil ys ∙ all ∙ ap (λ (t : List ℕ). xs ++ t) is ∙ sym (append_assoc xs line (codes "\n"))

module _ {O : Type 0} (contents : O → Option (List ℕ)) where
  pub nothing : (teller : Teller O) → Tells contents teller teller []
  nothing teller = record { text = Appends-nil (told_octets contents teller); form = refl; out = refl; line = λ none. none }

  pub both : (a b c : Teller O) (first next : List ℕ) → Tells contents a b first → Tells contents b c next → Tells contents a c (first ++ next)
  both a b c first next p q = record {
    text = Appends-trans (told_octets contents a) (told_octets contents b) (told_octets contents c) first next p.text q.text;
    form = q.form ∙ p.form;
    out = q.out ∙ p.out;
    line = λ none. q.line (p.line none);
  }

  -- a line is made, and then it is written
  pub line_told : {T E : Type 0} (r : Result T E) (a m b : Teller O) (text : List ℕ) → string_bytes m.line ≡ string_bytes a.line ++ text → m.out ≡ a.out → m.form ≡ a.form
      → OnOk r (Tells contents m b (codes "\n")) → OnOk r (string_bytes b.line ≡ []) → OnOk r (Tells contents a b (with_line_end text))
  line_told (Err fault) a m b text line out form wrote none = tt
  line_told (Ok x) a m b text line out form wrote none =
      record {
        text = Appends-trans (told_octets contents a) (told_octets contents m) (told_octets contents b) text (codes "\n")
            (subst (λ (o : MutBor O). Appends (told_octets contents a) (append_known (contents o.now) (string_bytes m.line)) text) (sym out) (pushed (contents a.out.now) (string_bytes a.line) (string_bytes m.line) text line))
            wrote.text;
        form = wrote.form ∙ form;
        out = wrote.out ∙ ap (λ (o : MutBor O). o.ghost_name) out;
        line = λ begun. none;
      }

  -- a call, and then one that tells what its form asks for
  pub then : {T E : Type 0} (r : Result T E) (a b c : Teller O) (first : List ℕ) (next : Form → List ℕ) → Tells contents a b first → OnOk r (Tells contents b c (next b.form))
      → OnOk r (Tells contents a c (first ++ next a.form))
  then (Err fault) a b c first next p q = tt
  then (Ok x) a b c first next p q = both a b c first (next a.form) p (subst (λ (form : Form). Tells contents b c (next form)) p.form q)

  -- the rows so far, and one more
  pub one_row : (a b c : Teller O) (so_far whole : List ℕ) (row : Form → List ℕ) → Tells contents a b so_far → Tells contents b c (row b.form) → so_far ++ row a.form ≡ whole → Tells contents a c whole
  one_row a b c so_far whole row p q is =
      subst (λ (t : List ℕ). Tells contents a c t) is (both a b c so_far (row a.form) p (subst (λ (form : Form). Tells contents b c (row form)) p.form q))

  -- three calls, of which the latter two tell what their form asks for
  pub then_both : {T E : Type 0} (r : Result T E) (a b c d : Teller O) (first : List ℕ) (next last : Form → List ℕ) → Tells contents a b first → Tells contents b c (next b.form)
      → OnOk r (Tells contents c d (last c.form)) → OnOk r (Tells contents a d (first ++ (next a.form ++ last a.form)))
  then_both r a b c d first next last p q s =
      then r a b d first (λ (form : Form). next form ++ last form) p (then r b c d (next b.form) last q s)

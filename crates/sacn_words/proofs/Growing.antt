-- Texts that grow keep what they hold.
use Rattle.std.proofs.Common.{◌≡◌, ℕ, ◌+◌, ◌<◌, ◌≤◌, List, [], ◌++◌, ◌∙◌, ap, sym, append_assoc, append-nil, length, take, get_or, subst}
use Rattle.std.proofs.lemmas.List.{take_all}
use Rattle.std.proofs.lemmas.List.Elements.{All-more}
use Rattle.std.specs.Prelude.{All}
use Rattle.sacn_words.specs.declared.manual.tree.Argument.{Argument}
use Rattle.sacn_words.specs.declared.manual.tree.Subcommand.{Subcommand}
use Rattle.sacn_words.specs.declared.manual.syntax.Syntax.{Syntax}
use Rattle.sacn_words.specs.Syntaxes.{written}
use Rattle.sacn_words.specs.Texts.{Grows, Holds, IsTold, TellsArgument, TellsCommand}

pub grows : (old more new : List ℕ) → new ≡ old ++ more → Grows old new
grows old more new e = record { more = more; is = e }

pub chain : (a b c : List ℕ) → Grows a b → Grows b c → Grows a c
chain a b c g h = record { more = g.more ++ h.more; is = h.is ∙ ap (λ (x : List ℕ). x ++ h.more) g.is ∙ append_assoc a g.more h.more }

pub kept : (old new piece : List ℕ) → Holds old piece → Grows old new → Holds new piece
kept old new piece h g = record {
  before = h.before;
  after = h.after ++ g.more;
  is = g.is ∙ ap (λ (x : List ℕ). x ++ g.more) h.is ∙ append_assoc h.before (piece ++ h.after) g.more ∙ ap (λ (x : List ℕ). h.before ++ x) (append_assoc piece h.after g.more);
}

pub kept_told : (syntax : Syntax) (marked name said old new : List ℕ) → IsTold syntax marked name said old → Grows old new → IsTold syntax marked name said new
kept_told syntax marked name said old new t g = record { names = kept old new (marked ++ written syntax name) t.names g; says = kept old new (written syntax said) t.says g }

pub held : (old piece new : List ℕ) → new ≡ old ++ piece → Holds new piece
held old piece new e = record { before = old; after = []; is = e ∙ ap (λ (x : List ℕ). old ++ x) (sym (append-nil piece)) }

-- five pieces one after another
pub five_grow : (t0 a t1 b t2 c t3 d t4 e t5 : List ℕ) → t1 ≡ t0 ++ a → t2 ≡ t1 ++ b → t3 ≡ t2 ++ c → t4 ≡ t3 ++ d → t5 ≡ t4 ++ e → Grows t0 t5
five_grow t0 a t1 b t2 c t3 d t4 e t5 p q r s t =
    chain t0 t1 t5 (grows t0 a t1 p) (chain t1 t2 t5 (grows t1 b t2 q) (chain t2 t3 t5 (grows t2 c t3 r) (chain t3 t4 t5 (grows t3 d t4 s) (grows t4 e t5 t))))

-- a name after its mark and what is said of it, with pieces between and after them
pub told_here : (syntax : Syntax) (marked name said : List ℕ) (t1 t2 c t3 t4 e t5 : List ℕ)
    → t2 ≡ t1 ++ (marked ++ written syntax name) → t3 ≡ t2 ++ c → t4 ≡ t3 ++ written syntax said → t5 ≡ t4 ++ e
    → IsTold syntax marked name said t5
told_here syntax marked name said t1 t2 c t3 t4 e t5 q r s t = record {
  names = kept t2 t5 (marked ++ written syntax name) (held t1 (marked ++ written syntax name) t2 q)
      (chain t2 t3 t5 (grows t2 c t3 r) (chain t3 t4 t5 (grows t3 (written syntax said) t4 s) (grows t4 e t5 t)));
  says = kept t4 t5 (written syntax said) (held t3 (written syntax said) t4 s) (grows t4 e t5 t);
}

pub same : (t : List ℕ) → Grows t t
same t = record { more = []; is = sym (append-nil t) }

-- what is told of arguments stays, and one more is told
pub all_kept : (syntax : Syntax) (old new : List ℕ) (xs : List Argument) → All (TellsArgument syntax old) xs → Grows old new → All (TellsArgument syntax new) xs
all_kept syntax old new xs a g = λ k d l. kept_told syntax _ _ _ old new (a k d l) g

pub more_told : (syntax : Syntax) (old new : List ℕ) (xs : List Argument) (i : ℕ) (d : Argument) → i < length xs → Grows old new
    → All (TellsArgument syntax old) (take i xs) → TellsArgument syntax new (get_or xs i d) → All (TellsArgument syntax new) (take (i + 1) xs)
more_told syntax old new xs i d l g a t = All-more (TellsArgument syntax new) xs i d l (all_kept syntax old new (take i xs) a g) t

-- the same of commands
pub command_kept : (syntax : Syntax) (old new : List ℕ) (c : Subcommand) → TellsCommand syntax old c → Grows old new → TellsCommand syntax new c
command_kept syntax old new c t g = record { told = kept_told syntax _ _ _ old new t.told g; arguments = all_kept syntax old new c.arguments.now t.arguments g }

pub commands_kept : (syntax : Syntax) (old new : List ℕ) (xs : List Subcommand) → All (TellsCommand syntax old) xs → Grows old new → All (TellsCommand syntax new) xs
commands_kept syntax old new xs a g = λ k d l. command_kept syntax old new _ (a k d l) g

pub more_commands : (syntax : Syntax) (old new : List ℕ) (xs : List Subcommand) (i : ℕ) (d : Subcommand) → i < length xs → Grows old new
    → All (TellsCommand syntax old) (take i xs) → TellsCommand syntax new (get_or xs i d) → All (TellsCommand syntax new) (take (i + 1) xs)
more_commands syntax old new xs i d l g a t = All-more (TellsCommand syntax new) xs i d l (commands_kept syntax old new (take i xs) a g) t

-- what holds of as many as there are holds of all
pub all_taken : {X : Type 0} (P : X → Type 0) (xs : List X) (i : ℕ) → length xs ≤ i → All P (take i xs) → All P xs
all_taken P xs i past a = subst (All P) (take_all i xs past) a

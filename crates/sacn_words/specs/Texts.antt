-- What a text that is made from a tree tells of it.
use Rattle.std.specs.Prelude.{◌≡◌, ℕ, List, [], ◌++◌, All}
use Rattle.sacn_words.specs.declared.manual.syntax.Syntax.{Syntax}
use Rattle.sacn_words.specs.declared.manual.tree.Argument.{Argument}
use Rattle.sacn_words.specs.declared.manual.tree.Subcommand.{Subcommand}
use Rattle.sacn_words.specs.declared.manual.tree.Program.{Program}
use Rattle.sacn_words.specs.Syntaxes.{mark, written}

-- a text begins with another
pub record Grows (old new : List ℕ) : Type 0 where
  pub more : List ℕ
  pub is : new ≡ old ++ more

-- a piece stands somewhere in a text
pub record Holds (text piece : List ℕ) : Type 0 where
  pub before : List ℕ
  pub after : List ℕ
  pub is : text ≡ before ++ (piece ++ after)

-- a name after its mark, and what is said of it
pub record IsTold (syntax : Syntax) (marked name said text : List ℕ) : Type 0 where
  pub names : Holds text (marked ++ written syntax name)
  pub says : Holds text (written syntax said)

-- an argument: its name, as it is given, and what help says of it
abbrev pub TellsArgument : Syntax → List ℕ → Argument → Type 0
TellsArgument syntax text a = IsTold syntax (mark syntax a.spelling) a.name.now a.help.now text

-- a command: its name, what it does, and each of its arguments
pub record TellsCommand (syntax : Syntax) (text : List ℕ) (c : Subcommand) : Type 0 where
  pub told : IsTold syntax [] c.name.now c.about.now text
  pub arguments : All (TellsArgument syntax text) c.arguments.now

-- a program: its own arguments, and its commands
pub record TellsProgram (syntax : Syntax) (text : List ℕ) (p : Program) : Type 0 where
  pub own : All (TellsArgument syntax text) p.arguments.now
  pub commands : All (TellsCommand syntax text) p.commands.now

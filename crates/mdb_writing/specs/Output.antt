-- Texts on their way to a writer that may fail.
use Rattle.std.specs.Prelude.{◌≡◌, ◌++◌, ℕ, List, [], Option}
use Rattle.std.specs.Io.KnownBytes.{Appends}
use Rattle.mdb_writing.specs.Written.{HasTaken}

-- What is on its way to a writer: the bytes that it holds, and those that wait on a page.
pub record Output : Type 0 where
  pub held : Option (List ℕ)
  pub waiting : List ℕ

abbrev pub output : Option (List ℕ) → List ℕ → Output
output contents page = record { held = contents; waiting = page }

-- before the first text nothing waits
abbrev pub begun : Option (List ℕ) → Output
begun contents = output contents []

-- A text came after the bytes that waited. Of these and the text the writer took the first, and
-- the others wait.
pub record Puts (before after : Output) (text : List ℕ) : Type 0 where
  pub taken : List ℕ
  pub parts : before.waiting ++ text ≡ taken ++ after.waiting
  pub grown : Appends before.held after.held taken

-- The writer failed when it was given the bytes that waited and then a text. It took a front of
-- these.
abbrev pub Breaks : Output → Output → List ℕ → Type 0
Breaks before after text = HasTaken before.held after.held (before.waiting ++ text)

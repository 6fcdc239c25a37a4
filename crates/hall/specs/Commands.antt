-- The words that the program knows, and what it says of words that it cannot carry out.
use Rattle.std.specs.Prelude.{◌≡◌, ℕ, List, ◌++◌, codes, ◌≢◌, Some, None, Option, string_bytes}
use Rattle.hall.specs.declared.command.Command.{Command}
use Rattle.hall.specs.declared.command.Command.TheVariants.{Check, Help, Version}
use Rattle.hall.specs.declared.trouble.Trouble.{Trouble}
use Rattle.hall.specs.declared.trouble.Trouble.TheVariants.{NoCommand, TooManyWords, UnknownCommand, Unreadable, Io, OutOfMemory}

-- the word asks for the command, or for none
abbrev pub Asked : List ℕ → Option Command → Type 0
Asked word (Some Check) = word ≡ codes "check"
Asked word (Some Help) = word ≡ codes "--help"
Asked word (Some Version) = word ≡ codes "--version"
Asked word None = (word ≢ codes "check") × (word ≢ codes "--help") × (word ≢ codes "--version")

-- what is told; nothing is said of the system's own words
abbrev pub told : Trouble → Option (List ℕ)
told NoCommand = Some (codes "no command: see 'hall --help'")
told TooManyWords = Some (codes "too many words: see 'hall --help'")
told (UnknownCommand word) = Some (codes "unknown command '" ++ (string_bytes word ++ codes "': see 'hall --help'"))
told (Unreadable path why) = None
told (Io why) = None
told OutOfMemory = Some (codes "memory allocation failed")

-- What the search for a register gives, as the rules have it.
use Rattle.std.specs.Prelude.{Option, Some, None}
use Rattle.rules.specs.Messages.{Found, nothing_found}
use Rattle.checks.specs.declared.newest.Written.{Written}

-- "the version found, and value its value", or 0 and 0
abbrev pub found_meant : Option Written → Found
found_meant (Some w) = record { version = w.version; value = w.value }
found_meant None = nothing_found

-- What is told of an open file.
use Rattle.std.specs.Prelude.{◌≡◌, IsSomeAnd, MatchResult, IsNone}
use Rattle.std.specs.declared.option.Option.{Option}
use Rattle.std.specs.declared.result.Result.{Result}
use Rattle.std.specs.Fs.{metadata_mode}
use Rattle.std.specs.declared.fs.attrs.Metadata.{Metadata}
use Rattle.open_file.specs.declared.About.{About}

-- what the system answered is told, and nothing where it failed
abbrev pub Told : {E : Type 0} → Result Metadata E → Option About → Type 0
Told answer about = MatchResult answer (λ found. IsSomeAnd about (λ a. a.mode ≡ metadata_mode found)) (λ _. IsNone about)

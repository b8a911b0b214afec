-- Worked draws and a worked trace of the generator.
use Rattle.std.specs.Prelude.{◌≡◌, ℕ, ◌/◌, ◌%◌, List, ◌++◌, codes}
use Rattle.lt_trace.specs.Grammar.{Spells}
use Rattle.lt_trace.specs.Generator.{state_after, drawn, padded, generated}

-- of the seed 0, one transaction and one line
abbrev pub least_text : List ℕ
least_text = codes "rangelock 1\ntrees 2\nlimit 4096\nbuffer 512\n1 try 1 \"06987\" \"06987\"\n1 end\n"

pub record GeneratorRows : Type 0 where
  pub state : state_after 0 1 ≡ 1442695040888963407
  pub number : drawn 1442695040888963407 ≡ 167951807
  pub kind : 167951807 % 8 ≡ 7
  pub tree : 167951807 / 8 % 2 ≡ 1
  pub key : 167951807 / 16 % 10000 ≡ 6987
  pub digits : padded 5 6987 ≡ codes "06987"
  pub text : Spells least_text (generated 0 1 1)

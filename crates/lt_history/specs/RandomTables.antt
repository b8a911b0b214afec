-- Random tables whose replies are known: questions of three transactions, some of which end a buffer.
use Rattle.std.specs.Prelude.{◌≡◌, ℕ, List, [], ◌∷◌, ◌++◌, codes, fold, length, map, true, false}
use Rattle.lt_ranges.specs.declared.key.Key.TheVariants.{Below, Bytes, After, Above}
use Rattle.lt_ranges.specs.Short.{between, from_to, at}
use Rattle.lt_ranges.specs.Interval.{Interval}
use Rattle.lt_seq.specs.declared.event.Deed.{Deed}
use Rattle.lt_seq.specs.declared.event.Deed.TheVariants.{Ask, Free, Who, Join}
use Rattle.lt_seq.specs.declared.event.Mode.{Mode}
use Rattle.lt_seq.specs.declared.event.Mode.TheVariants.{Tree, Buffer}
use Rattle.lt_seq.specs.declared.event.Reply.TheVariants.{Granted}
use Rattle.lt_seq.specs.declared.event.Event.{Event}
use Rattle.lt_seq.specs.Table.{Setting, used}
use Rattle.lt_seq.specs.History.{after}
use Rattle.lt_seq.specs.Yard.{event_after}
use Rattle.lt_seq.specs.Questions.{all_receipts}
use Rattle.lt_history.specs.Text.{text}

abbrev pub all : Interval
all = between Below Above

-- a transaction's question
pub record Asked : Type 0 where
  pub txn : ℕ
  pub deed : Deed

abbrev pub q : ℕ → Deed → Asked
q txn deed = record { txn = txn; deed = deed }

-- so many trees, and a buffer of this size
abbrev pub with_trees : ℕ → ℕ → Setting
with_trees trees buffer = record { plan = record { trees = trees; limit = 64; buffer = buffer; passes = 1; first = 0 }; marks = [] }

abbrev pub made : Setting → List Asked → List Event
made setting questions = fold (λ events asked. events ++ event_after setting events 0 asked.txn asked.deed ∷ []) [] questions

-- the text of the questions with their replies, and of the rows that are used then
abbrev pub shown : Setting → List Asked → List ℕ
shown setting questions =
    let events = made setting questions in text (all_receipts 0 events) [] (length events) (used (after setting events))

-- the modes of the trees then
abbrev pub modes : Setting → List Asked → List Mode
modes setting questions = map (λ t. t.mode) (after setting (made setting questions))

abbrev pub questions_0 : List Asked
questions_0 =
    q 3 (Ask 0 (between (After (97 ∷ 32 ∷ 32 ∷ 98 ∷ [])) (After (97 ∷ 34 ∷ 98 ∷ []))) Granted)
    ∷ q 1 (Who 0 (between (Bytes (45 ∷ 32 ∷ 43 ∷ [])) (Bytes (45 ∷ 32 ∷ 43 ∷ []))) 3 []) ∷ q 1 (Ask 0 (between (After (97 ∷ 42 ∷ [])) (After (97 ∷ 42 ∷ []))) Granted)
    ∷ q 3 (Free 0 (between (Bytes (97 ∷ 42 ∷ [])) (After [])) false 0) ∷ q 1 (Free 0 all true 0)
    ∷ q 3 (Free 0 (between (After (97 ∷ 34 ∷ 98 ∷ [])) (After (97 ∷ 34 ∷ 98 ∷ []))) true 0)
    ∷ q 1 (Who 0 (between (After (97 ∷ 34 ∷ 98 ∷ [])) (After (97 ∷ 34 ∷ 98 ∷ []))) 2 []) ∷ q 1 (Ask 0 (between (Bytes (32 ∷ [])) (Bytes (32 ∷ []))) Granted)
    ∷ q 2 (Ask 0 (between (Bytes (97 ∷ 32 ∷ 98 ∷ [])) (Bytes (97 ∷ 34 ∷ 98 ∷ []))) Granted) ∷ q 1 (Who 0 (between (Bytes (32 ∷ [])) (Bytes (32 ∷ []))) 1 [])
    ∷ q 1 (Ask 0 (between (Bytes (97 ∷ 32 ∷ 98 ∷ [])) (Bytes (97 ∷ 34 ∷ 98 ∷ []))) Granted) ∷ q 2 (Ask 0 (between Above Above) Granted) ∷ []

abbrev pub questions_1 : List Asked
questions_1 =
    q 2 (Who 0 (between (Bytes (97 ∷ 32 ∷ 32 ∷ 98 ∷ [])) (Bytes (97 ∷ 42 ∷ []))) 3 [])
    ∷ q 2 (Free 0 (between (Bytes (97 ∷ 32 ∷ 98 ∷ [])) (Bytes (97 ∷ 32 ∷ 98 ∷ []))) false 0)
    ∷ q 2 (Ask 1 (between (Bytes (97 ∷ 32 ∷ 98 ∷ [])) (Bytes (97 ∷ 32 ∷ 98 ∷ []))) Granted) ∷ q 1 (Who 1 (between Below Below) 2 [])
    ∷ q 2 (Ask 0 (between (Bytes (10 ∷ [])) (After (10 ∷ []))) Granted) ∷ q 3 (Ask 1 (between (Bytes (45 ∷ 32 ∷ 43 ∷ [])) (Bytes (92 ∷ 120 ∷ 54 ∷ 49 ∷ []))) Granted)
    ∷ q 1 (Free 0 (between (Bytes (92 ∷ 120 ∷ 54 ∷ 49 ∷ [])) (Bytes (92 ∷ 120 ∷ 54 ∷ 49 ∷ []))) false 0)
    ∷ q 1 (Who 0 (between (Bytes (97 ∷ 32 ∷ 98 ∷ [])) (Bytes (97 ∷ 32 ∷ 98 ∷ []))) 1 []) ∷ []

abbrev pub questions_2 : List Asked
questions_2 =
    q 3 (Who 0 (between (Bytes (35 ∷ 92 ∷ 1 ∷ [])) (Bytes (35 ∷ 92 ∷ 1 ∷ []))) 2 []) ∷ q 2 (Ask 0 (between Below (Bytes (35 ∷ 92 ∷ 1 ∷ []))) Granted)
    ∷ q 3 (Who 0 (between Below (Bytes (35 ∷ 92 ∷ 1 ∷ []))) 2 []) ∷ q 2 (Free 0 all false 0) ∷ q 2 (Who 0 (between Below Below) 2 [])
    ∷ q 3 (Ask 0 (between Below (Bytes (codes "aca"))) Granted) ∷ q 1 (Who 0 (between (After (codes "c")) Above) 1 []) ∷ q 2 (Ask 0 (at (codes "c")) Granted)
    ∷ q 2 (Ask 0 (at (codes "aca")) Granted) ∷ q 1 (Free 0 all false 0) ∷ q 1 (Ask 0 (from_to (codes "aca") (codes "c")) Granted)
    ∷ q 1 (Free 0 (between (Bytes (35 ∷ 92 ∷ 1 ∷ [])) (After (codes "c"))) false 0) ∷ q 2 (Who 0 (between Below Below) 2 []) ∷ q 3 (Join 0 0 0) ∷ q 1 (Join 0 0 0)
    ∷ q 3 (Who 0 all 3 []) ∷ q 3 (Ask 0 (between (Bytes (35 ∷ 92 ∷ 1 ∷ [])) Above) Granted) ∷ q 3 (Ask 0 (between (Bytes (codes "aca")) Above) Granted)
    ∷ q 1 (Free 0 (between (Bytes (35 ∷ 92 ∷ 1 ∷ [])) (Bytes (35 ∷ 92 ∷ 1 ∷ []))) true 0) ∷ q 1 (Ask 0 (between (After (codes "c")) (After (codes "c"))) Granted)
    ∷ q 3 (Free 0 (at (codes "aca")) true 0) ∷ q 1 (Who 0 (at (codes "c")) 1 []) ∷ q 3 (Free 0 (between Below Below) false 0) ∷ []

abbrev pub questions_3 : List Asked
questions_3 =
    q 3 (Who 1 (at (codes "c")) 3 []) ∷ q 2 (Who 0 (between (Bytes []) (Bytes [])) 1 []) ∷ q 2 (Ask 0 (at (codes "e")) Granted)
    ∷ q 1 (Ask 0 (between (After (codes "b")) (Bytes (codes "e"))) Granted) ∷ q 3 (Ask 1 (between (Bytes (codes "d")) (After (codes "d"))) Granted)
    ∷ q 1 (Ask 0 (between (Bytes []) (Bytes [])) Granted) ∷ q 3 (Join 0 0 0) ∷ q 1 (Who 1 (between (After (codes "d")) (After (codes "d"))) 2 []) ∷ q 1 (Join 0 0 0)
    ∷ q 2 (Ask 0 (between (After (codes "b")) (After (codes "c"))) Granted) ∷ q 2 (Free 0 all false 0) ∷ q 2 (Free 1 (at (codes "e")) true 0)
    ∷ q 3 (Free 0 (between (After (codes "a")) (After (codes "a"))) false 0) ∷ q 3 (Free 0 (between (After (codes "a")) (After (codes "a"))) true 0)
    ∷ q 2 (Free 0 (between Below Below) false 0) ∷ q 3 (Ask 1 (between Below Below) Granted) ∷ []

abbrev pub questions_4 : List Asked
questions_4 =
    q 1 (Join 0 0 0) ∷ q 3 (Who 0 (between (Bytes (32 ∷ [])) (Bytes (32 ∷ []))) 2 []) ∷ q 1 (Join 1 0 0) ∷ q 3 (Join 1 0 0)
    ∷ q 3 (Ask 0 (between (Bytes (10 ∷ [])) (Bytes (10 ∷ []))) Granted) ∷ q 1 (Join 1 0 0) ∷ q 2 (Who 0 (between (Bytes (10 ∷ [])) (Bytes (10 ∷ []))) 3 [])
    ∷ q 3 (Ask 1 (between (After (10 ∷ [])) (After (10 ∷ []))) Granted) ∷ q 3 (Join 1 0 0) ∷ q 1 (Free 1 (between (After []) (After [])) false 0) ∷ q 1 (Join 0 0 0)
    ∷ q 3 (Who 0 (between Below Below) 3 []) ∷ q 1 (Ask 1 (between (Bytes (97 ∷ 32 ∷ 98 ∷ [])) (Bytes (97 ∷ 34 ∷ 98 ∷ []))) Granted)
    ∷ q 3 (Ask 1 (between (Bytes []) (Bytes [])) Granted) ∷ []

abbrev pub questions_5 : List Asked
questions_5 =
    q 1 (Who 0 (between (Bytes (codes "a")) (After (codes "d"))) 3 []) ∷ q 1 (Free 0 all false 0) ∷ q 2 (Who 0 (at (codes "d")) 1 []) ∷ q 3 (Join 0 0 0) ∷ q 1 (Join 0 0 0)
    ∷ q 1 (Join 0 0 0) ∷ q 3 (Ask 0 (between (After (codes "c")) (After (codes "c"))) Granted) ∷ q 2 (Who 0 (between Below (Bytes (codes "a"))) 1 [])
    ∷ q 2 (Free 0 (at (codes "c")) false 0) ∷ q 1 (Who 0 (at (codes "b")) 3 []) ∷ q 1 (Free 0 (between (Bytes (codes "b")) (After (codes "b"))) true 0)
    ∷ q 3 (Who 0 (from_to (codes "a") (codes "b")) 1 []) ∷ q 3 (Who 0 (between (After (codes "c")) (After (codes "c"))) 3 []) ∷ q 2 (Join 0 0 0)
    ∷ q 3 (Who 0 (at (codes "b")) 1 []) ∷ q 3 (Join 0 0 0) ∷ q 1 (Free 0 all true 0) ∷ []

abbrev pub questions_6 : List Asked
questions_6 =
    q 2 (Ask 0 (between (After (45 ∷ 32 ∷ 43 ∷ [])) (After (45 ∷ 32 ∷ 43 ∷ []))) Granted) ∷ q 2 (Ask 0 (between (Bytes (42 ∷ [])) (After (42 ∷ []))) Granted)
    ∷ q 1 (Who 0 (between (Bytes (32 ∷ [])) (After (97 ∷ 34 ∷ 98 ∷ []))) 3 []) ∷ q 3 (Who 0 (between (Bytes (42 ∷ [])) (Bytes (45 ∷ 32 ∷ 43 ∷ []))) 2 []) ∷ q 3 (Join 0 0 0)
    ∷ q 2 (Free 0 all true 0) ∷ q 2 (Ask 0 (between (Bytes (92 ∷ 120 ∷ 54 ∷ 49 ∷ [])) (Bytes (97 ∷ 34 ∷ 98 ∷ []))) Granted) ∷ q 3 (Free 0 all true 0) ∷ []

abbrev pub questions_7 : List Asked
questions_7 =
    q 2 (Free 1 (between (After (codes "b")) (After (codes "b"))) true 0) ∷ q 2 (Join 0 0 0) ∷ q 3 (Free 0 (between Below (After (codes "a"))) false 0)
    ∷ q 1 (Free 0 (at (codes "a")) true 0) ∷ q 3 (Free 0 all true 0) ∷ q 1 (Ask 0 (between (After (codes "a")) (After (codes "a"))) Granted)
    ∷ q 3 (Who 0 (between Below Below) 2 []) ∷ q 1 (Free 1 (between (Bytes (codes "b")) Above) false 0) ∷ q 1 (Join 1 0 0)
    ∷ q 1 (Ask 1 (between Below (Bytes (codes "a"))) Granted) ∷ q 1 (Ask 1 (between (After (codes "b")) Above) Granted) ∷ []

abbrev pub questions_8 : List Asked
questions_8 =
    q 2 (Who 0 (between (Bytes (codes "b")) (Bytes (127 ∷ []))) 2 []) ∷ q 3 (Join 0 0 0) ∷ q 1 (Ask 1 (between (After (codes "b")) (After (127 ∷ []))) Granted)
    ∷ q 1 (Who 1 (between (After (127 ∷ [])) Above) 3 []) ∷ q 1 (Who 1 (between (After (codes "b")) (After (codes "b"))) 1 [])
    ∷ q 1 (Who 1 (between (After (codes "b")) (After (codes "b"))) 3 []) ∷ q 2 (Free 0 all true 0) ∷ q 1 (Join 1 0 0) ∷ q 3 (Who 0 (at (codes "b")) 3 []) ∷ []

abbrev pub questions_9 : List Asked
questions_9 =
    q 3 (Ask 0 (between (After (45 ∷ 32 ∷ 43 ∷ [])) (After (45 ∷ 32 ∷ 43 ∷ []))) Granted) ∷ q 2 (Free 1 (between (Bytes []) (After (45 ∷ 32 ∷ 43 ∷ []))) true 0)
    ∷ q 2 (Free 0 (between (Bytes (10 ∷ [])) (Bytes (10 ∷ []))) true 0) ∷ q 2 (Who 0 (between (Bytes (42 ∷ [])) (After (42 ∷ []))) 3 [])
    ∷ q 1 (Free 0 (between (Bytes (97 ∷ 32 ∷ 32 ∷ 98 ∷ [])) (Bytes (97 ∷ 32 ∷ 32 ∷ 98 ∷ []))) false 0)
    ∷ q 2 (Free 0 (between (Bytes (97 ∷ 34 ∷ 98 ∷ [])) (Bytes (97 ∷ 34 ∷ 98 ∷ []))) false 0) ∷ q 2 (Who 0 (between (After (97 ∷ 42 ∷ [])) (After (97 ∷ 42 ∷ []))) 3 [])
    ∷ q 1 (Who 0 (between (Bytes []) (Bytes [])) 1 []) ∷ q 1 (Free 1 (between (Bytes (97 ∷ 32 ∷ 98 ∷ [])) (Bytes (97 ∷ 32 ∷ 98 ∷ []))) true 0) ∷ []

abbrev pub questions_10 : List Asked
questions_10 =
    q 3 (Ask 1 (between Above Above) Granted) ∷ q 2 (Free 0 (between (After (codes "aa")) (After (codes "aa"))) true 0)
    ∷ q 2 (Ask 1 (between (Bytes (210 ∷ 195 ∷ 235 ∷ [])) (Bytes (210 ∷ 195 ∷ 235 ∷ []))) Granted) ∷ q 2 (Join 0 0 0)
    ∷ q 1 (Who 1 (between (After (210 ∷ 195 ∷ 235 ∷ [])) (After (210 ∷ 195 ∷ 235 ∷ []))) 3 []) ∷ q 3 (Who 0 (at (codes "aa")) 2 [])
    ∷ q 3 (Who 1 (between (Bytes (codes "aa")) (After (codes "aa"))) 2 []) ∷ q 1 (Join 0 0 0) ∷ q 2 (Free 0 all true 0) ∷ []

abbrev pub questions_11 : List Asked
questions_11 =
    q 3 (Who 0 (between (Bytes (255 ∷ [])) (Bytes (255 ∷ []))) 1 []) ∷ q 2 (Ask 1 (between (Bytes (97 ∷ 0 ∷ [])) (Bytes (97 ∷ 0 ∷ []))) Granted)
    ∷ q 1 (Free 1 (at (codes "a")) false 0) ∷ q 2 (Ask 0 (between (After (codes "a")) (After (codes "a"))) Granted) ∷ q 3 (Who 1 (between (Bytes []) (Bytes [])) 3 [])
    ∷ q 3 (Ask 1 (between (Bytes (97 ∷ 255 ∷ [])) (Bytes (255 ∷ []))) Granted) ∷ q 3 (Who 1 (between (Bytes (97 ∷ 255 ∷ [])) (Bytes (255 ∷ []))) 2 [])
    ∷ q 1 (Ask 1 (between (Bytes (97 ∷ 255 ∷ [])) (Bytes (97 ∷ 255 ∷ []))) Granted) ∷ q 3 (Ask 1 (between (Bytes (97 ∷ 255 ∷ [])) (Bytes (97 ∷ 255 ∷ []))) Granted) ∷ []

abbrev pub questions_12 : List Asked
questions_12 =
    q 2 (Join 0 0 0) ∷ q 2 (Free 1 (between (Bytes (97 ∷ 42 ∷ [])) (After [])) true 0) ∷ q 3 (Free 1 (between (Bytes (97 ∷ 42 ∷ [])) (Bytes (97 ∷ 42 ∷ []))) true 0)
    ∷ q 3 (Ask 1 (between (Bytes (45 ∷ 32 ∷ 43 ∷ [])) (Bytes (45 ∷ 32 ∷ 43 ∷ []))) Granted)
    ∷ q 1 (Ask 0 (between (Bytes (45 ∷ 32 ∷ 43 ∷ [])) (After (92 ∷ 120 ∷ 54 ∷ 49 ∷ []))) Granted) ∷ q 1 (Free 0 all true 0)
    ∷ q 3 (Free 1 (between (Bytes (97 ∷ 34 ∷ 98 ∷ [])) (Bytes (97 ∷ 34 ∷ 98 ∷ []))) false 0) ∷ q 2 (Free 1 (between Below (Bytes (92 ∷ 120 ∷ 54 ∷ 49 ∷ []))) false 0) ∷ []

abbrev pub questions_13 : List Asked
questions_13 =
    q 2 (Ask 0 (between (After (codes "b")) (After (codes "b"))) Granted) ∷ q 2 (Ask 0 (between (After (codes "a")) (After (codes "a"))) Granted) ∷ q 2 (Join 0 0 0)
    ∷ q 1 (Who 0 (at (codes "b")) 3 []) ∷ q 1 (Ask 0 (at (codes "b")) Granted) ∷ q 1 (Who 0 (from_to (codes "a") (codes "b")) 1 [])
    ∷ q 2 (Ask 0 (between (After (codes "a")) (Bytes (codes "b"))) Granted) ∷ q 3 (Ask 0 (between (After (codes "b")) (After (codes "b"))) Granted) ∷ []

abbrev pub questions_14 : List Asked
questions_14 =
    q 1 (Ask 0 (between (After (codes "a")) Above) Granted) ∷ q 1 (Ask 1 (between (Bytes (codes "b")) (After (codes "c"))) Granted)
    ∷ q 3 (Ask 0 (between Above Above) Granted) ∷ q 1 (Ask 1 (between (After (codes "c")) (After (codes "c"))) Granted)
    ∷ q 1 (Who 1 (between (After (codes "a")) (After (codes "a"))) 2 []) ∷ q 3 (Ask 1 (at (codes "b")) Granted) ∷ q 3 (Free 0 (at (codes "b")) false 0)
    ∷ q 3 (Who 1 (at (codes "c")) 1 []) ∷ q 1 (Who 1 (between (After (codes "a")) (After (codes "b"))) 3 []) ∷ q 2 (Who 0 (between (Bytes (codes "c")) Above) 3 [])
    ∷ q 1 (Who 1 (at (codes "b")) 3 []) ∷ q 2 (Ask 1 (from_to (codes "b") (codes "c")) Granted) ∷ q 2 (Ask 0 (between (After (codes "c")) Above) Granted) ∷ []

abbrev pub questions_15 : List Asked
questions_15 =
    q 3 (Free 0 (at (codes "007")) false 0) ∷ q 1 (Join 0 0 0) ∷ q 3 (Ask 0 (between (Bytes (codes "027")) (After (codes "039"))) Granted)
    ∷ q 3 (Ask 0 (from_to (codes "015") (codes "023")) Granted) ∷ q 1 (Ask 0 (from_to (codes "003") (codes "035")) Granted)
    ∷ q 1 (Who 0 (from_to (codes "017") (codes "023")) 2 []) ∷ q 2 (Ask 0 (between (After (codes "003")) (After (codes "003"))) Granted)
    ∷ q 1 (Who 0 (at (codes "013")) 3 []) ∷ []

abbrev pub questions_16 : List Asked
questions_16 =
    q 3 (Free 0 (between (After (codes "c")) (After (codes "c"))) true 0) ∷ q 2 (Ask 0 (at (codes "f")) Granted) ∷ q 1 (Free 0 (at (codes "d")) true 0)
    ∷ q 1 (Ask 0 (between Above Above) Granted) ∷ q 1 (Free 0 all true 0) ∷ q 1 (Ask 0 (between (Bytes []) Above) Granted)
    ∷ q 2 (Ask 0 (from_to (codes "b") (codes "c")) Granted) ∷ q 1 (Join 0 0 0) ∷ q 2 (Ask 0 (at (codes "f")) Granted) ∷ []

abbrev pub questions_17 : List Asked
questions_17 =
    q 2 (Ask 0 (between (After (32 ∷ [])) (Bytes (45 ∷ 32 ∷ 43 ∷ []))) Granted) ∷ q 2 (Ask 0 (between (Bytes []) (Bytes (92 ∷ 120 ∷ 54 ∷ 49 ∷ []))) Granted)
    ∷ q 2 (Ask 0 (between (Bytes (45 ∷ 32 ∷ 43 ∷ [])) (Bytes (45 ∷ 32 ∷ 43 ∷ []))) Granted) ∷ q 1 (Join 0 0 0)
    ∷ q 3 (Ask 0 (between (Bytes (32 ∷ [])) (After (32 ∷ []))) Granted) ∷ q 2 (Free 0 all true 0) ∷ q 3 (Ask 0 (between Below (Bytes [])) Granted) ∷ q 3 (Free 0 all true 0)
    ∷ q 1 (Ask 0 (between Below (Bytes (32 ∷ []))) Granted) ∷ q 2 (Who 0 (between (Bytes (42 ∷ [])) (Bytes (42 ∷ []))) 1 [])
    ∷ q 1 (Ask 0 (between (Bytes (10 ∷ [])) (Bytes (10 ∷ []))) Granted) ∷ q 3 (Join 0 0 0) ∷ q 2 (Free 0 (between (After (32 ∷ [])) (After (32 ∷ []))) true 0)
    ∷ q 1 (Join 0 0 0) ∷ []

abbrev pub questions_18 : List Asked
questions_18 =
    q 1 (Who 0 (between (After (codes "c")) (Bytes (codes "d"))) 2 []) ∷ q 1 (Who 1 (between (After (codes "a")) (After (codes "a"))) 3 [])
    ∷ q 3 (Who 0 (between (After (codes "a")) (After (codes "b"))) 3 []) ∷ q 2 (Ask 0 (at (codes "c")) Granted) ∷ q 3 (Free 1 all false 0)
    ∷ q 3 (Free 1 (between (After (codes "c")) (Bytes (codes "d"))) true 0) ∷ q 1 (Ask 0 (between (After (codes "d")) (After (codes "d"))) Granted)
    ∷ q 1 (Free 1 (between (After (codes "b")) (After (codes "b"))) true 0) ∷ q 3 (Who 1 (at (codes "c")) 2 [])
    ∷ q 1 (Ask 0 (between (After (codes "d")) (After (codes "d"))) Granted) ∷ q 1 (Join 1 0 0) ∷ q 2 (Who 1 (at (codes "b")) 3 []) ∷ q 1 (Ask 0 (at (codes "b")) Granted)
    ∷ q 3 (Ask 1 (at (codes "b")) Granted) ∷ q 3 (Join 0 0 0) ∷ q 2 (Ask 0 (between (After (codes "d")) (After (codes "d"))) Granted) ∷ []

abbrev pub questions_19 : List Asked
questions_19 =
    q 3 (Ask 1 (between Below (Bytes (0 ∷ []))) Granted) ∷ q 3 (Ask 1 (between (After (codes "c")) (After (codes "c"))) Granted) ∷ q 2 (Join 0 0 0)
    ∷ q 1 (Ask 1 (between (Bytes (0 ∷ [])) (Bytes (0 ∷ []))) Granted) ∷ q 2 (Ask 1 (between (After (codes "c")) (After (codes "c"))) Granted)
    ∷ q 2 (Ask 1 (between (Bytes (99 ∷ 0 ∷ [])) (After (99 ∷ 255 ∷ []))) Granted) ∷ q 1 (Who 1 (between (After (99 ∷ 255 ∷ [])) (Bytes (255 ∷ []))) 3 [])
    ∷ q 3 (Ask 1 (between (Bytes (99 ∷ 255 ∷ [])) (Bytes (99 ∷ 255 ∷ []))) Granted) ∷ q 3 (Ask 1 (between (Bytes (99 ∷ 255 ∷ [])) (Bytes (255 ∷ []))) Granted)
    ∷ q 3 (Ask 0 (between (After (99 ∷ 255 ∷ [])) (After (99 ∷ 255 ∷ []))) Granted) ∷ q 1 (Join 0 0 0)
    ∷ q 1 (Free 0 (between (Bytes (99 ∷ 0 ∷ [])) (Bytes (99 ∷ 0 ∷ []))) true 0) ∷ []

-- what an independent reading of the rules says of each
pub record RandomTables : Type 0 where
  pub text_0 : shown (with_trees 1 2) questions_0 ≡
      codes "0 3 ask 0 \"a  b\"* \"a\\x22b\"* buffered\n1 1 who 0 \"- +\" \"- +\" 3 held by none\n2 1 ask 0 \"a*\"* \"a*\"* granted\n3 3 free 0 \"a*\" \"\"* 0\n"
      ++ codes "4 1 free 0 - + 1\n5 3 free 0 \"a\\x22b\"* \"a\\x22b\"* 1\n6 1 who 0 \"a\\x22b\"* \"a\\x22b\"* 2 held by none\n7 1 ask 0 \" \" \" \" granted\n"
      ++ codes "8 2 ask 0 \"a b\" \"a\\x22b\" granted\n9 1 who 0 \" \" \" \" 1 held by none\n10 1 ask 0 \"a b\" \"a\\x22b\" held by 2\n11 2 ask 0 + + granted\nend 12 3\n"
  pub modes_0 : modes (with_trees 1 2) questions_0 ≡ Tree 2 ∷ []
  pub text_1 : shown (with_trees 2 5) questions_1 ≡
      codes "0 2 who 0 \"a  b\" \"a*\" 3 held by none\n1 2 free 0 \"a b\" \"a b\" 0\n2 2 ask 1 \"a b\" \"a b\" buffered\n3 1 who 1 - - 2 held by none\n"
      ++ codes "4 2 ask 0 \"\\x0a\" \"\\x0a\"* buffered\n5 3 ask 1 \"- +\" \"\\x5cx61\" granted\n6 1 free 0 \"\\x5cx61\" \"\\x5cx61\" 0\n"
      ++ codes "7 1 who 0 \"a b\" \"a b\" 1 held by none\nend 8 3\n"
  pub modes_1 : modes (with_trees 2 5) questions_1 ≡ Tree 0 ∷ Tree 0 ∷ []
  pub text_2 : shown (with_trees 1 2) questions_2 ≡
      codes "0 3 who 0 \"#\\x5c\\x01\" \"#\\x5c\\x01\" 2 held by none\n1 2 ask 0 - \"#\\x5c\\x01\" buffered\n2 3 who 0 - \"#\\x5c\\x01\" 2 held by none\n3 2 free 0 - + 1\n"
      ++ codes "4 2 who 0 - - 2 held by none\n5 3 ask 0 - \"aca\" buffered\n6 1 who 0 \"c\"* + 1 held by none\n7 2 ask 0 \"c\" \"c\" granted\n"
      ++ codes "8 2 ask 0 \"aca\" \"aca\" held by 3\n9 1 free 0 - + 0\n10 1 ask 0 \"aca\" \"c\" held by 2 3\n11 1 free 0 \"#\\x5c\\x01\" \"c\"* 0\n12 2 who 0 - - 2 held by 3\n"
      ++ codes "13 3 join 0 2 2\n14 1 join 0 2 2\n15 3 who 0 - + 3 held by 2\n16 3 ask 0 \"#\\x5c\\x01\" + held by 2\n17 3 ask 0 \"aca\" + held by 2\n"
      ++ codes "18 1 free 0 \"#\\x5c\\x01\" \"#\\x5c\\x01\" 0\n19 1 ask 0 \"c\"* \"c\"* granted\n20 3 free 0 \"aca\" \"aca\" 1\n21 1 who 0 \"c\" \"c\" 1 held by 2\n"
      ++ codes "22 3 free 0 - - 0\nend 23 2\n"
  pub modes_2 : modes (with_trees 1 2) questions_2 ≡ Tree 2 ∷ []
  pub text_3 : shown (with_trees 2 2) questions_3 ≡
      codes "0 3 who 1 \"c\" \"c\" 3 held by none\n1 2 who 0 \"\" \"\" 1 held by none\n2 2 ask 0 \"e\" \"e\" buffered\n3 1 ask 0 \"b\"* \"e\" held by 2\n"
      ++ codes "4 3 ask 1 \"d\" \"d\"* buffered\n5 1 ask 0 \"\" \"\" granted\n6 3 join 0 2 2\n7 1 who 1 \"d\"* \"d\"* 2 held by 3\n8 1 join 0 2 2\n"
      ++ codes "9 2 ask 0 \"b\"* \"c\"* granted\n10 2 free 0 - + 2\n11 2 free 1 \"e\" \"e\" 0\n12 3 free 0 \"a\"* \"a\"* 0\n13 3 free 0 \"a\"* \"a\"* 0\n14 2 free 0 - - 0\n"
      ++ codes "15 3 ask 1 - - granted\nend 16 3\n"
  pub modes_3 : modes (with_trees 2 2) questions_3 ≡ Tree 1 ∷ Tree 1 ∷ []
  pub text_4 : shown (with_trees 2 5) questions_4 ≡
      codes "0 1 join 0 0 0\n1 3 who 0 \" \" \" \" 2 held by none\n2 1 join 1 0 0\n3 3 join 1 0 0\n4 3 ask 0 \"\\x0a\" \"\\x0a\" buffered\n5 1 join 1 0 0\n"
      ++ codes "6 2 who 0 \"\\x0a\" \"\\x0a\" 3 held by none\n7 3 ask 1 \"\\x0a\"* \"\\x0a\"* buffered\n8 3 join 1 1 1\n9 1 free 1 \"\"* \"\"* 0\n10 1 join 0 1 1\n"
      ++ codes "11 3 who 0 - - 3 held by none\n12 1 ask 1 \"a b\" \"a\\x22b\" granted\n13 3 ask 1 \"\" \"\" granted\nend 14 4\n"
  pub modes_4 : modes (with_trees 2 5) questions_4 ≡ Tree 0 ∷ Tree 0 ∷ []
  pub text_5 : shown (with_trees 1 2) questions_5 ≡
      codes "0 1 who 0 \"a\" \"d\"* 3 held by none\n1 1 free 0 - + 0\n2 2 who 0 \"d\" \"d\" 1 held by none\n3 3 join 0 0 0\n4 1 join 0 0 0\n5 1 join 0 0 0\n"
      ++ codes "6 3 ask 0 \"c\"* \"c\"* buffered\n7 2 who 0 - \"a\" 1 held by none\n8 2 free 0 \"c\" \"c\" 0\n9 1 who 0 \"b\" \"b\" 3 held by none\n10 1 free 0 \"b\" \"b\"* 0\n"
      ++ codes "11 3 who 0 \"a\" \"b\" 1 held by none\n12 3 who 0 \"c\"* \"c\"* 3 held by none\n13 2 join 0 1 1\n14 3 who 0 \"b\" \"b\" 1 held by none\n15 3 join 0 1 1\n"
      ++ codes "16 1 free 0 - + 0\nend 17 1\n"
  pub modes_5 : modes (with_trees 1 2) questions_5 ≡ Tree 2 ∷ []
  pub text_6 : shown (with_trees 1 5) questions_6 ≡
      codes "0 2 ask 0 \"- +\"* \"- +\"* buffered\n1 2 ask 0 \"*\" \"*\"* buffered\n2 1 who 0 \" \" \"a\\x22b\"* 3 held by 2\n3 3 who 0 \"*\" \"- +\" 2 held by none\n"
      ++ codes "4 3 join 0 2 1\n5 2 free 0 - + 1\n6 2 ask 0 \"\\x5cx61\" \"a\\x22b\" granted\n7 3 free 0 - + 0\nend 8 1\n"
  pub modes_6 : modes (with_trees 1 5) questions_6 ≡ Tree 2 ∷ []
  pub text_7 : shown (with_trees 2 5) questions_7 ≡
      codes "0 2 free 1 \"b\"* \"b\"* 0\n1 2 join 0 0 0\n2 3 free 0 - \"a\"* 0\n3 1 free 0 \"a\" \"a\" 0\n4 3 free 0 - + 0\n5 1 ask 0 \"a\"* \"a\"* buffered\n"
      ++ codes "6 3 who 0 - - 2 held by none\n7 1 free 1 \"b\" + 0\n8 1 join 1 0 0\n9 1 ask 1 - \"a\" buffered\n10 1 ask 1 \"b\"* + buffered\nend 11 3\n"
  pub modes_7 : modes (with_trees 2 5) questions_7 ≡ Tree 0 ∷ Buffer 1 2 ∷ []
  pub text_8 : shown (with_trees 2 5) questions_8 ≡
      codes "0 2 who 0 \"b\" \"\\x7f\" 2 held by none\n1 3 join 0 0 0\n2 1 ask 1 \"b\"* \"\\x7f\"* buffered\n3 1 who 1 \"\\x7f\"* + 3 held by 1\n"
      ++ codes "4 1 who 1 \"b\"* \"b\"* 1 held by none\n5 1 who 1 \"b\"* \"b\"* 3 held by 1\n6 2 free 0 - + 0\n7 1 join 1 1 1\n8 3 who 0 \"b\" \"b\" 3 held by none\nend 9 1\n"
  pub modes_8 : modes (with_trees 2 5) questions_8 ≡ Tree 100 ∷ Tree 0 ∷ []
  pub text_9 : shown (with_trees 2 2) questions_9 ≡
      codes "0 3 ask 0 \"- +\"* \"- +\"* buffered\n1 2 free 1 \"\" \"- +\"* 0\n2 2 free 0 \"\\x0a\" \"\\x0a\" 0\n3 2 who 0 \"*\" \"*\"* 3 held by none\n"
      ++ codes "4 1 free 0 \"a  b\" \"a  b\" 0\n5 2 free 0 \"a\\x22b\" \"a\\x22b\" 0\n6 2 who 0 \"a*\"* \"a*\"* 3 held by none\n7 1 who 0 \"\" \"\" 1 held by none\n"
      ++ codes "8 1 free 1 \"a b\" \"a b\" 0\nend 9 1\n"
  pub modes_9 : modes (with_trees 2 2) questions_9 ≡ Tree 1 ∷ Tree 100 ∷ []
  pub text_10 : shown (with_trees 2 3) questions_10 ≡
      codes "0 3 ask 1 + + buffered\n1 2 free 0 \"aa\"* \"aa\"* 0\n2 2 ask 1 \"\\xd2\\xc3\\xeb\" \"\\xd2\\xc3\\xeb\" granted\n3 2 join 0 0 0\n"
      ++ codes "4 1 who 1 \"\\xd2\\xc3\\xeb\"* \"\\xd2\\xc3\\xeb\"* 3 held by none\n5 3 who 0 \"aa\" \"aa\" 2 held by none\n6 3 who 1 \"aa\" \"aa\"* 2 held by none\n"
      ++ codes "7 1 join 0 0 0\n8 2 free 0 - + 0\nend 9 2\n"
  pub modes_10 : modes (with_trees 2 3) questions_10 ≡ Tree 100 ∷ Tree 0 ∷ []
  pub text_11 : shown (with_trees 2 2) questions_11 ≡
      codes "0 3 who 0 \"\\xff\" \"\\xff\" 1 held by none\n1 2 ask 1 \"a\\x00\" \"a\\x00\" buffered\n2 1 free 1 \"a\" \"a\" 0\n3 2 ask 0 \"a\"* \"a\"* buffered\n"
      ++ codes "4 3 who 1 \"\" \"\" 3 held by none\n5 3 ask 1 \"a\\xff\" \"\\xff\" granted\n6 3 who 1 \"a\\xff\" \"\\xff\" 2 held by 3\n"
      ++ codes "7 1 ask 1 \"a\\xff\" \"a\\xff\" held by 3\n8 3 ask 1 \"a\\xff\" \"a\\xff\" granted\nend 9 3\n"
  pub modes_11 : modes (with_trees 2 2) questions_11 ≡ Buffer 2 1 ∷ Tree 0 ∷ []
  pub text_12 : shown (with_trees 2 2) questions_12 ≡
      codes "0 2 join 0 0 0\n1 2 free 1 \"a*\" \"\"* 0\n2 3 free 1 \"a*\" \"a*\" 0\n3 3 ask 1 \"- +\" \"- +\" buffered\n4 1 ask 0 \"- +\" \"\\x5cx61\"* buffered\n"
      ++ codes "5 1 free 0 - + 1\n6 3 free 1 \"a\\x22b\" \"a\\x22b\" 0\n7 2 free 1 - \"\\x5cx61\" 0\nend 8 1\n"
  pub modes_12 : modes (with_trees 2 2) questions_12 ≡ Tree 100 ∷ Tree 0 ∷ []
  pub text_13 : shown (with_trees 1 1) questions_13 ≡
      codes "0 2 ask 0 \"b\"* \"b\"* buffered\n1 2 ask 0 \"a\"* \"a\"* granted\n2 2 join 0 2 1\n3 1 who 0 \"b\" \"b\" 3 held by 2\n4 1 ask 0 \"b\" \"b\" held by 2\n"
      ++ codes "5 1 who 0 \"a\" \"b\" 1 held by 2\n6 2 ask 0 \"a\"* \"b\" granted\n7 3 ask 0 \"b\"* \"b\"* held by 2\nend 8 1\n"
  pub modes_13 : modes (with_trees 1 1) questions_13 ≡ Tree 0 ∷ []
  pub text_14 : shown (with_trees 2 1) questions_14 ≡
      codes "0 1 ask 0 \"a\"* + buffered\n1 1 ask 1 \"b\" \"c\"* buffered\n2 3 ask 0 + + held by 1\n3 1 ask 1 \"c\"* \"c\"* granted\n4 1 who 1 \"a\"* \"a\"* 2 held by none\n"
      ++ codes "5 3 ask 1 \"b\" \"b\" held by 1\n6 3 free 0 \"b\" \"b\" 0\n7 3 who 1 \"c\" \"c\" 1 held by none\n8 1 who 1 \"a\"* \"b\"* 3 held by 1\n"
      ++ codes "9 2 who 0 \"c\" + 3 held by 1\n10 1 who 1 \"b\" \"b\" 3 held by 1\n11 2 ask 1 \"b\" \"c\" held by 1\n12 2 ask 0 \"c\"* + held by 1\nend 13 2\n"
  pub modes_14 : modes (with_trees 2 1) questions_14 ≡ Tree 0 ∷ Tree 0 ∷ []
  pub text_15 : shown (with_trees 1 2) questions_15 ≡
      codes "0 3 free 0 \"007\" \"007\" 0\n1 1 join 0 0 0\n2 3 ask 0 \"027\" \"039\"* buffered\n3 3 ask 0 \"015\" \"023\" buffered\n4 1 ask 0 \"003\" \"035\" held by 3\n"
      ++ codes "5 1 who 0 \"017\" \"023\" 2 held by 3\n6 2 ask 0 \"003\"* \"003\"* granted\n7 1 who 0 \"013\" \"013\" 3 held by none\nend 8 3\n"
  pub modes_15 : modes (with_trees 1 2) questions_15 ≡ Tree 0 ∷ []
  pub text_16 : shown (with_trees 1 5) questions_16 ≡
      codes "0 3 free 0 \"c\"* \"c\"* 0\n1 2 ask 0 \"f\" \"f\" buffered\n2 1 free 0 \"d\" \"d\" 0\n3 1 ask 0 + + granted\n4 1 free 0 - + 1\n5 1 ask 0 \"\" + held by 2\n"
      ++ codes "6 2 ask 0 \"b\" \"c\" granted\n7 1 join 0 2 1\n8 2 ask 0 \"f\" \"f\" granted\nend 9 1\n"
  pub modes_16 : modes (with_trees 1 5) questions_16 ≡ Tree 2 ∷ []
  pub text_17 : shown (with_trees 1 5) questions_17 ≡
      codes "0 2 ask 0 \" \"* \"- +\" buffered\n1 2 ask 0 \"\" \"\\x5cx61\" buffered\n2 2 ask 0 \"- +\" \"- +\" buffered\n3 1 join 0 1 1\n4 3 ask 0 \" \" \" \"* held by 2\n"
      ++ codes "5 2 free 0 - + 1\n6 3 ask 0 - \"\" granted\n7 3 free 0 - + 1\n8 1 ask 0 - \" \" granted\n9 2 who 0 \"*\" \"*\" 1 held by none\n"
      ++ codes "10 1 ask 0 \"\\x0a\" \"\\x0a\" granted\n11 3 join 0 1 1\n12 2 free 0 \" \"* \" \"* 0\n13 1 join 0 1 1\nend 14 1\n"
  pub modes_17 : modes (with_trees 1 5) questions_17 ≡ Tree 3 ∷ []
  pub text_18 : shown (with_trees 2 3) questions_18 ≡
      codes "0 1 who 0 \"c\"* \"d\" 2 held by none\n1 1 who 1 \"a\"* \"a\"* 3 held by none\n2 3 who 0 \"a\"* \"b\"* 3 held by none\n3 2 ask 0 \"c\" \"c\" buffered\n"
      ++ codes "4 3 free 1 - + 0\n5 3 free 1 \"c\"* \"d\" 0\n6 1 ask 0 \"d\"* \"d\"* granted\n7 1 free 1 \"b\"* \"b\"* 0\n8 3 who 1 \"c\" \"c\" 2 held by none\n"
      ++ codes "9 1 ask 0 \"d\"* \"d\"* granted\n10 1 join 1 0 0\n11 2 who 1 \"b\" \"b\" 3 held by none\n12 1 ask 0 \"b\" \"b\" granted\n13 3 ask 1 \"b\" \"b\" buffered\n"
      ++ codes "14 3 join 0 3 3\n15 2 ask 0 \"d\"* \"d\"* held by 1\nend 16 4\n"
  pub modes_18 : modes (with_trees 2 3) questions_18 ≡ Tree 0 ∷ Buffer 3 1 ∷ []
  pub text_19 : shown (with_trees 2 2) questions_19 ≡
      codes "0 3 ask 1 - \"\\x00\" buffered\n1 3 ask 1 \"c\"* \"c\"* buffered\n2 2 join 0 0 0\n3 1 ask 1 \"\\x00\" \"\\x00\" held by 3\n4 2 ask 1 \"c\"* \"c\"* held by 3\n"
      ++ codes "5 2 ask 1 \"c\\x00\" \"c\\xff\"* granted\n6 1 who 1 \"c\\xff\"* \"\\xff\" 3 held by 2\n7 3 ask 1 \"c\\xff\" \"c\\xff\" held by 2\n"
      ++ codes "8 3 ask 1 \"c\\xff\" \"\\xff\" held by 2\n9 3 ask 0 \"c\\xff\"* \"c\\xff\"* buffered\n10 1 join 0 1 1\n11 1 free 0 \"c\\x00\" \"c\\x00\" 0\nend 12 4\n"
  pub modes_19 : modes (with_trees 2 2) questions_19 ≡ Tree 1 ∷ Tree 0 ∷ []

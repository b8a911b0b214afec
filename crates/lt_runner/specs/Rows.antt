-- Worked examples.
use Rattle.std.specs.Prelude.{◌≡◌, ℕ, List, [], ◌∷◌, ◌++◌, codes}
use Rattle.lt_ranges.specs.Short.{letters}
use Rattle.lt_trace.specs.declared.line.Line.{Line}
use Rattle.lt_trace.specs.declared.line.LineDeed.{LineDeed}
use Rattle.lt_trace.specs.declared.line.LineDeed.TheVariants.{Try, Lock, End, Abort, Escalate}
use Rattle.lt_trace.specs.Trace.{TraceView}
use Rattle.lt_runner.specs.Serial.{serial, ran_text}

abbrev pub line : ℕ → LineDeed → Line
line txn deed = record { txn = txn; number = 0; deed = deed }

abbrev pub with_limit : ℕ → List Line → TraceView
with_limit limit lines = record { version = 1; trees = 1; limit = limit; buffer = 0; lines = lines }

abbrev pub smallest : TraceView
smallest = with_limit 64 (line 1 (Try 0 (letters 97 99)) ∷ line 1 End ∷ [])

abbrev pub shared_end : TraceView
shared_end = with_limit 64 (line 1 (Try 0 (letters 97 99)) ∷ line 2 (Try 0 (letters 99 101)) ∷ [])

abbrev pub deadlock : TraceView
deadlock =
    with_limit 64 (line 1 (Lock 0 (letters 97 97)) ∷ line 2 (Lock 0 (letters 98 98)) ∷ line 1 (Lock 0 (letters 98 98))
    ∷ line 2 (Lock 0 (letters 97 97)) ∷ [])

abbrev pub put_off : TraceView
put_off = with_limit 64 (line 1 (Lock 0 (letters 97 97)) ∷ line 2 (Lock 0 (letters 97 99)) ∷ line 2 (Try 0 (letters 120 120)) ∷ line 1 End ∷ [])

abbrev pub one_row : TraceView
one_row = with_limit 1 (line 1 (Try 0 (letters 97 97)) ∷ line 2 (Try 0 (letters 99 99)) ∷ [])

abbrev pub aborted : TraceView
aborted = with_limit 64 (line 1 (Lock 0 (letters 97 97)) ∷ line 1 Abort ∷ [])

abbrev pub cycle_of_three : TraceView
cycle_of_three =
    with_limit 64 (line 1 (Lock 0 (letters 97 97)) ∷ line 2 (Lock 0 (letters 98 98)) ∷ line 3 (Lock 0 (letters 99 99))
    ∷ line 1 (Lock 0 (letters 98 98)) ∷ line 2 (Lock 0 (letters 99 99)) ∷ line 3 (Lock 0 (letters 97 97)) ∷ [])

abbrev pub buffered : TraceView
buffered =
    record (with_limit 64 (line 1 (Lock 0 (letters 97 97)) ∷ line 1 (Lock 0 (letters 99 99)) ∷ line 1 End
    ∷ line 2 (Lock 0 (letters 122 122)) ∷ [])) { buffer = 4 }

abbrev pub escalated : TraceView
escalated =
    with_limit 64 (line 1 (Try 0 (letters 97 97)) ∷ line 1 (Try 0 (letters 99 99)) ∷ line 1 (Try 0 (letters 101 101))
    ∷ line 2 (Try 0 (letters 103 103)) ∷ line 1 (Escalate 0) ∷ line 3 (Try 0 (letters 100 100)) ∷ [])

abbrev pub two_trees : TraceView
two_trees =
    record (with_limit 2 (line 1 (Try 1 (letters 97 97)) ∷ line 1 (Try 0 (letters 98 98)) ∷ line 2 (Try 0 (letters 97 97))
    ∷ line 1 End ∷ [])) { trees = 2 }

pub record Rows : Type 0 where
  pub given_back : ran_text (serial smallest 0) ≡
      codes "0 1 ask 0 \"a\" \"c\" granted\n"
      ++ codes "1 1 free 0 \"a\" \"c\" 1\n"
      ++ codes "txn 1 done\n"
      ++ codes "end 2 0\n"
  pub refused : ran_text (serial shared_end 0) ≡
      codes "0 1 ask 0 \"a\" \"c\" granted\n"
      ++ codes "1 2 ask 0 \"c\" \"e\" held by 1\n"
      ++ codes "2 1 free 0 \"a\" \"c\" 1\n"
      ++ codes "txn 1 done\n"
      ++ codes "txn 2 done\n"
      ++ codes "end 3 0\n"
  pub searched : ran_text (serial deadlock 0) ≡
      codes "0 1 ask 0 \"a\" \"a\" granted\n"
      ++ codes "1 2 ask 0 \"b\" \"b\" granted\n"
      ++ codes "2 1 ask 0 \"b\" \"b\" held by 2\n"
      ++ codes "3 2 ask 0 \"a\" \"a\" held by 1\n"
      ++ codes "4 2 who 0 \"b\" \"b\" 1 held by 2\n"
      ++ codes "5 2 free 0 \"b\" \"b\" 1\n"
      ++ codes "6 1 ask 0 \"b\" \"b\" granted\n"
      ++ codes "7 1 free 0 \"a\" \"a\" 1\n"
      ++ codes "8 1 free 0 \"b\" \"b\" 1\n"
      ++ codes "txn 1 done\n"
      ++ codes "txn 2 deadlock 2 1 2\n"
      ++ codes "end 9 0\n"
  pub retried : ran_text (serial put_off 0) ≡
      codes "0 1 ask 0 \"a\" \"a\" granted\n"
      ++ codes "1 2 ask 0 \"a\" \"c\" held by 1\n"
      ++ codes "2 1 free 0 \"a\" \"a\" 1\n"
      ++ codes "3 2 ask 0 \"a\" \"c\" granted\n"
      ++ codes "4 2 ask 0 \"x\" \"x\" granted\n"
      ++ codes "5 2 free 0 \"a\" \"c\" 1\n"
      ++ codes "6 2 free 0 \"x\" \"x\" 1\n"
      ++ codes "txn 1 done\n"
      ++ codes "txn 2 done\n"
      ++ codes "end 7 0\n"
  pub out_of_locks : ran_text (serial one_row 0) ≡
      codes "0 1 ask 0 \"a\" \"a\" granted\n"
      ++ codes "1 2 join 0 1 1\n"
      ++ codes "2 1 free 0 \"a\" \"a\" 1\n"
      ++ codes "txn 1 done\n"
      ++ codes "txn 2 outoflocks 2 1\n"
      ++ codes "end 3 0\n"
  pub ended : ran_text (serial aborted 0) ≡
      codes "0 1 ask 0 \"a\" \"a\" granted\n"
      ++ codes "1 1 free 0 \"a\" \"a\" 1\n"
      ++ codes "txn 1 aborted\n"
      ++ codes "end 2 0\n"
  pub walked : ran_text (serial cycle_of_three 0) ≡
      codes "0 1 ask 0 \"a\" \"a\" granted\n"
      ++ codes "1 2 ask 0 \"b\" \"b\" granted\n"
      ++ codes "2 3 ask 0 \"c\" \"c\" granted\n"
      ++ codes "3 1 ask 0 \"b\" \"b\" held by 2\n"
      ++ codes "4 2 ask 0 \"c\" \"c\" held by 3\n"
      ++ codes "5 3 ask 0 \"a\" \"a\" held by 1\n"
      ++ codes "6 3 who 0 \"b\" \"b\" 1 held by 2\n"
      ++ codes "7 3 who 0 \"c\" \"c\" 2 held by 3\n"
      ++ codes "8 3 free 0 \"c\" \"c\" 1\n"
      ++ codes "9 1 ask 0 \"b\" \"b\" held by 2\n"
      ++ codes "10 1 who 0 \"c\" \"c\" 2 held by none\n"
      ++ codes "11 2 ask 0 \"c\" \"c\" granted\n"
      ++ codes "12 2 free 0 \"b\" \"b\" 1\n"
      ++ codes "13 2 free 0 \"c\" \"c\" 1\n"
      ++ codes "14 1 ask 0 \"b\" \"b\" granted\n"
      ++ codes "15 1 free 0 \"a\" \"a\" 1\n"
      ++ codes "16 1 free 0 \"b\" \"b\" 1\n"
      ++ codes "txn 1 done\n"
      ++ codes "txn 2 done\n"
      ++ codes "txn 3 deadlock 3 1 2 3\n"
      ++ codes "end 17 0\n"
  pub given_back_whole : ran_text (serial buffered 0) ≡
      codes "0 1 ask 0 \"a\" \"a\" buffered\n"
      ++ codes "1 1 ask 0 \"c\" \"c\" buffered\n"
      ++ codes "2 1 free 0 - + 2\n"
      ++ codes "3 2 ask 0 \"z\" \"z\" buffered\n"
      ++ codes "4 2 free 0 - + 1\n"
      ++ codes "txn 1 done\n"
      ++ codes "txn 2 done\n"
      ++ codes "end 5 0\n"
  pub joined : ran_text (serial escalated 0) ≡
      codes "0 1 ask 0 \"a\" \"a\" granted\n"
      ++ codes "1 1 ask 0 \"c\" \"c\" granted\n"
      ++ codes "2 1 ask 0 \"e\" \"e\" granted\n"
      ++ codes "3 2 ask 0 \"g\" \"g\" granted\n"
      ++ codes "4 1 join 0 4 2\n"
      ++ codes "5 3 ask 0 \"d\" \"d\" held by 1\n"
      ++ codes "6 1 free 0 \"a\" \"a\" 1\n"
      ++ codes "7 1 free 0 \"c\" \"c\" 0\n"
      ++ codes "8 1 free 0 \"e\" \"e\" 0\n"
      ++ codes "9 2 free 0 \"g\" \"g\" 1\n"
      ++ codes "txn 1 done\n"
      ++ codes "txn 2 done\n"
      ++ codes "txn 3 done\n"
      ++ codes "end 10 0\n"
  pub by_tree : ran_text (serial two_trees 0) ≡
      codes "0 1 ask 1 \"a\" \"a\" granted\n"
      ++ codes "1 1 ask 0 \"b\" \"b\" granted\n"
      ++ codes "2 2 join 0 1 1\n"
      ++ codes "3 2 join 1 1 1\n"
      ++ codes "4 1 free 0 \"b\" \"b\" 1\n"
      ++ codes "5 1 free 1 \"a\" \"a\" 1\n"
      ++ codes "txn 1 done\n"
      ++ codes "txn 2 outoflocks 4 2\n"
      ++ codes "end 6 0\n"

-- Random traces whose runs are known, with joins where there is no room, escalate lines and big transactions.
use Rattle.std.specs.Prelude.{◌≡◌, ℕ, List, [], ◌∷◌, ◌++◌, codes}
use Rattle.lt_ranges.specs.declared.key.Key.TheVariants.{After}
use Rattle.lt_ranges.specs.Short.{between, from_to, at}
use Rattle.lt_trace.specs.declared.line.Line.{Line}
use Rattle.lt_trace.specs.declared.line.LineDeed.TheVariants.{Try, Lock, End, Abort, Escalate, Big}
use Rattle.lt_trace.specs.Trace.{TraceView}
use Rattle.lt_runner.specs.Rows.{line}
use Rattle.lt_runner.specs.Serial.{serial, ran_text}

-- a trace of this version, with so many trees, this limit and this buffer
abbrev pub trace : ℕ → ℕ → ℕ → ℕ → List Line → TraceView
trace version trees limit buffer lines = record { version = version; trees = trees; limit = limit; buffer = buffer; lines = lines }

abbrev pub trace_0 : TraceView
trace_0 = trace 1 1 6 2 (
    line 4 (Lock 0 (at (codes "k004"))) ∷ line 9 (Lock 0 (at (codes "k009"))) ∷ line 6 (Try 0 (at (codes "k026"))) ∷ line 5 (Lock 0 (at (codes "k005")))
    ∷ line 1 (Lock 0 (at (codes "k001"))) ∷ line 3 (Try 0 (at (codes "k023"))) ∷ line 7 (Lock 0 (at (codes "k007"))) ∷ line 3 (Lock 0 (at (codes "k003")))
    ∷ line 10 (Lock 0 (at (codes "k010"))) ∷ line 2 (Lock 0 (at (codes "k002"))) ∷ line 6 (Lock 0 (at (codes "k006"))) ∷ line 8 (Lock 0 (at (codes "k008")))
    ∷ line 8 (Try 0 (at (codes "k028"))) ∷ line 10 (Lock 0 (at (codes "k009"))) ∷ line 3 (Lock 0 (from_to (codes "k001") (codes "k003")))
    ∷ line 5 (Lock 0 (at (codes "k006"))) ∷ line 8 (Lock 0 (at (codes "k009"))) ∷ line 4 (Lock 0 (at (codes "k001")))
    ∷ line 9 (Lock 0 (from_to (codes "k007") (codes "k009"))) ∷ line 1 (Lock 0 (at (codes "k002"))) ∷ line 6 (Lock 0 (at (codes "k005")))
    ∷ line 4 (Lock 0 (from_to (codes "k003") (codes "k004"))) ∷ [])

abbrev pub trace_1 : TraceView
trace_1 = trace 1 1 64 0 (
    line 4 (Try 0 (at (codes "k000"))) ∷ line 4 (Lock 0 (at (codes "k002"))) ∷ line 7 (Try 0 (at (codes "k001"))) ∷ line 3 (Lock 0 (at (codes "k004")))
    ∷ line 7 (Lock 0 (at (codes "k003"))) ∷ line 18 (Try 0 (at (codes "k005"))) ∷ line 18 (Lock 0 (at (codes "k007"))) ∷ line 19 (Try 0 (at (codes "k006")))
    ∷ line 16 (Lock 0 (at (codes "k009"))) ∷ line 19 (Lock 0 (at (codes "k008"))) ∷ line 28 (Try 0 (at (codes "k010"))) ∷ line 28 (Lock 0 (at (codes "k012")))
    ∷ line 29 (Try 0 (at (codes "k011"))) ∷ line 27 (Lock 0 (at (codes "k014"))) ∷ line 29 (Lock 0 (at (codes "k013"))) ∷ line 3 (Lock 0 (at (codes "k001")))
    ∷ line 4 (Lock 0 (at (codes "k004"))) ∷ line 2 (Lock 0 (at (codes "k003"))) ∷ line 2 (Escalate 0) ∷ line 16 (Lock 0 (at (codes "k006"))) ∷ [])

abbrev pub trace_2 : TraceView
trace_2 = trace 2 1 1 2 (
    line 1 Big ∷ line 3 Big ∷ line 3 (Lock 0 (at (codes "k002"))) ∷ line 3 (Escalate 0) ∷ line 2 (Lock 0 (at (codes "k000"))) ∷ line 2 (Try 0 (at (codes "k000")))
    ∷ line 2 (Lock 0 (at (codes "k003"))) ∷ line 1 (Try 0 (at (codes "k002"))) ∷ line 3 (Lock 0 (at (codes "k001"))) ∷ line 3 (Escalate 0)
    ∷ line 2 (Try 0 (at (codes "k001"))) ∷ line 2 (Lock 0 (at (codes "k001"))) ∷ line 2 Big ∷ line 2 (Try 0 (at (codes "k003"))) ∷ line 2 (Lock 0 (at (codes "k002")))
    ∷ line 1 (Lock 0 (at (codes "k000"))) ∷ line 1 (Lock 0 (at (codes "k001"))) ∷ line 1 (Escalate 0) ∷ line 3 (Try 0 (at (codes "k001")))
    ∷ line 3 (Try 0 (at (codes "k000"))) ∷ line 1 (Lock 0 (at (codes "k003"))) ∷ [])

abbrev pub trace_3 : TraceView
trace_3 = trace 2 3 6 4 (
    line 1 Big ∷ line 2 (Lock 1 (at (codes "k002"))) ∷ line 2 (Try 1 (at (codes "k001"))) ∷ line 1 (Lock 0 (at (codes "k002"))) ∷ line 1 End
    ∷ line 2 (Lock 2 (at (codes "k006"))) ∷ line 3 (Lock 2 (at (codes "k004"))) ∷ line 3 (Lock 1 (at (codes "k008"))) ∷ line 3 End ∷ line 4 (Try 1 (at (codes "k001")))
    ∷ line 5 (Try 0 (at (codes "k007"))) ∷ line 5 (Try 0 (at (codes "k003"))) ∷ line 5 (Lock 1 (at (codes "k007"))) ∷ line 5 (Try 0 (at (codes "k005")))
    ∷ line 2 (Lock 1 (at (codes "k000"))) ∷ line 2 (Try 0 (at (codes "k005"))) ∷ line 4 (Lock 0 (at (codes "k007"))) ∷ [])

abbrev pub trace_4 : TraceView
trace_4 = trace 1 1 6 3 (
    line 1 (Lock 0 (at (codes "k000"))) ∷ line 3 (Lock 0 (at (codes "k003"))) ∷ line 3 (Lock 0 (from_to (codes "k000") (codes "k001")))
    ∷ line 3 (Lock 0 (at (codes "k005"))) ∷ line 3 End ∷ line 2 (Lock 0 (at (codes "k002"))) ∷ line 2 (Lock 0 (from_to (codes "k000") (codes "k001"))) ∷ line 2 (Escalate 0)
    ∷ line 2 (Lock 0 (at (codes "k001"))) ∷ line 2 (Lock 0 (at (codes "k000"))) ∷ line 1 (Lock 0 (at (codes "k001"))) ∷ [])

abbrev pub trace_5 : TraceView
trace_5 = trace 2 1 4 0 (
    line 2 (Lock 0 (between (After (codes "d")) (After (codes "d")))) ∷ line 2 End ∷ line 4 (Try 0 (at (codes "d")))
    ∷ line 3 (Try 0 (between (After (codes "c")) (After (codes "c")))) ∷ line 4 (Lock 0 (between (After (codes "a")) (After (codes "a"))))
    ∷ line 4 (Try 0 (between (After (codes "d")) (After (codes "d")))) ∷ line 3 (Try 0 (between (After (codes "d")) (After (codes "d")))) ∷ line 3 (Escalate 0) ∷ [])

abbrev pub trace_6 : TraceView
trace_6 = trace 1 1 64 3 (
    line 5 (Lock 0 (at (codes "k000"))) ∷ line 4 (Lock 0 (at (codes "k004"))) ∷ line 4 (Lock 0 (at (codes "k000"))) ∷ line 4 (Try 0 (at (codes "k003")))
    ∷ line 4 (Lock 0 (at (codes "k001"))) ∷ line 4 (Lock 0 (at (codes "k004"))) ∷ line 4 Abort ∷ line 3 (Lock 0 (at (codes "k003")))
    ∷ line 3 (Lock 0 (from_to (codes "k000") (codes "k001"))) ∷ line 3 (Lock 0 (at (codes "k002"))) ∷ line 3 (Escalate 0) ∷ line 3 (Try 0 (at (codes "k006"))) ∷ line 3 End
    ∷ line 2 (Lock 0 (at (codes "k002"))) ∷ line 2 (Lock 0 (from_to (codes "k000") (codes "k001"))) ∷ line 2 (Lock 0 (at (codes "k000")))
    ∷ line 2 (Try 0 (at (codes "k005"))) ∷ line 2 (Try 0 (at (codes "k007"))) ∷ line 1 (Lock 0 (at (codes "k001"))) ∷ line 1 (Lock 0 (at (codes "k000")))
    ∷ line 1 (Escalate 0) ∷ line 1 End ∷ line 5 Abort ∷ [])

abbrev pub trace_7 : TraceView
trace_7 = trace 1 1 64 0 (
    line 4 (Try 0 (at (codes "k000"))) ∷ line 4 (Lock 0 (at (codes "k002"))) ∷ line 9 (Try 0 (at (codes "k001"))) ∷ line 7 (Lock 0 (at (codes "k004")))
    ∷ line 9 (Lock 0 (at (codes "k003"))) ∷ line 7 (Lock 0 (at (codes "k001"))) ∷ line 4 (Lock 0 (at (codes "k004"))) ∷ line 1 (Lock 0 (at (codes "k003")))
    ∷ line 1 (Escalate 0) ∷ line 9 End ∷ [])

abbrev pub trace_8 : TraceView
trace_8 = trace 1 2 9 0 (
    line 5 (Try 0 (at (codes "k000"))) ∷ line 5 (Lock 0 (at (codes "k002"))) ∷ line 9 (Try 0 (at (codes "k001"))) ∷ line 4 (Lock 1 (at (codes "k004")))
    ∷ line 9 (Lock 0 (at (codes "k003"))) ∷ line 16 (Try 0 (at (codes "k005"))) ∷ line 16 (Lock 0 (at (codes "k007"))) ∷ line 19 (Try 0 (at (codes "k006")))
    ∷ line 13 (Lock 1 (at (codes "k009"))) ∷ line 19 (Lock 0 (at (codes "k008"))) ∷ line 4 (Lock 0 (at (codes "k001"))) ∷ line 5 (Lock 1 (at (codes "k004")))
    ∷ line 3 (Lock 0 (at (codes "k003"))) ∷ line 3 (Escalate 0) ∷ line 3 (Try 0 (at (codes "k002"))) ∷ line 5 (Lock 0 (at (codes "k013")))
    ∷ line 4 (Lock 0 (at (codes "k019"))) ∷ line 13 (Lock 0 (at (codes "k006"))) ∷ line 16 (Lock 1 (at (codes "k009"))) ∷ line 12 (Lock 0 (at (codes "k008")))
    ∷ line 12 (Escalate 0) ∷ line 19 Abort ∷ line 9 End ∷ [])

abbrev pub trace_9 : TraceView
trace_9 = trace 1 1 64 65536 (
    line 2 (Lock 0 (at (codes "k000"))) ∷ line 4 (Lock 0 (at (codes "k004"))) ∷ line 4 (Lock 0 (at (codes "k000"))) ∷ line 3 (Lock 0 (at (codes "k003")))
    ∷ line 3 (Lock 0 (from_to (codes "k000") (codes "k001"))) ∷ line 3 (Try 0 (at (codes "k002"))) ∷ line 3 (Escalate 0) ∷ line 3 (Try 0 (at (codes "k000")))
    ∷ line 1 (Lock 0 (at (codes "k001"))) ∷ line 1 (Lock 0 (from_to (codes "k000") (codes "k001"))) ∷ line 1 (Lock 0 (at (codes "k003")))
    ∷ line 1 (Lock 0 (at (codes "k002"))) ∷ line 2 Abort ∷ [])

abbrev pub trace_10 : TraceView
trace_10 = trace 2 1 1 3 (
    line 1 Big ∷ line 1 (Lock 0 (at (codes "k003"))) ∷ line 1 (Try 0 (at (codes "k009"))) ∷ line 1 (Try 0 (at (codes "k009"))) ∷ line 2 (Lock 0 (at (codes "k009")))
    ∷ line 2 (Lock 0 (at (codes "k007"))) ∷ line 1 (Try 0 (at (codes "k011"))) ∷ line 2 (Try 0 (at (codes "k000"))) ∷ line 2 (Try 0 (at (codes "k004")))
    ∷ line 2 (Lock 0 (at (codes "k000"))) ∷ line 2 (Lock 0 (at (codes "k010"))) ∷ line 2 (Lock 0 (at (codes "k001"))) ∷ line 2 (Lock 0 (at (codes "k002")))
    ∷ line 1 (Lock 0 (at (codes "k007"))) ∷ line 1 (Lock 0 (at (codes "k009"))) ∷ line 1 (Try 0 (at (codes "k004"))) ∷ line 1 (Try 0 (at (codes "k002")))
    ∷ line 2 (Try 0 (at (codes "k002"))) ∷ line 2 (Lock 0 (at (codes "k002"))) ∷ line 2 (Try 0 (at (codes "k009"))) ∷ line 2 (Try 0 (at (codes "k008")))
    ∷ line 2 (Lock 0 (at (codes "k004"))) ∷ line 2 End ∷ line 3 (Lock 0 (at (codes "k006"))) ∷ line 3 (Try 0 (at (codes "k001"))) ∷ line 3 (Try 0 (at (codes "k010"))) ∷ [])

abbrev pub trace_11 : TraceView
trace_11 = trace 1 1 6 3 (
    line 1 (Lock 0 (at (codes "k001"))) ∷ line 2 (Lock 0 (at (codes "k002"))) ∷ line 3 (Lock 0 (at (codes "k003"))) ∷ line 4 (Lock 0 (at (codes "k004")))
    ∷ line 5 (Lock 0 (at (codes "k005"))) ∷ line 6 (Lock 0 (at (codes "k006"))) ∷ line 7 (Lock 0 (at (codes "k007"))) ∷ line 3 (Lock 0 (at (codes "k001")))
    ∷ line 6 (Lock 0 (from_to (codes "k005") (codes "k006"))) ∷ line 6 (Lock 0 (at (codes "k007"))) ∷ line 2 (Lock 0 (at (codes "k001")))
    ∷ line 5 (Lock 0 (from_to (codes "k005") (codes "k006"))) ∷ line 2 (Lock 0 (from_to (codes "k001") (codes "k002"))) ∷ line 5 (Lock 0 (at (codes "k006")))
    ∷ line 7 (Lock 0 (at (codes "k005"))) ∷ line 4 (Lock 0 (at (codes "k002"))) ∷ line 1 (Lock 0 (at (codes "k002"))) ∷ line 2 (Try 0 (at (codes "k021"))) ∷ line 1 Abort
    ∷ line 5 Abort ∷ line 6 Abort ∷ [])

abbrev pub trace_12 : TraceView
trace_12 = trace 2 1 2 4 (
    line 2 Big ∷ line 2 (Try 0 (at (codes "k001"))) ∷ line 2 (Try 0 (at (codes "k004"))) ∷ line 2 (Try 0 (at (codes "k003"))) ∷ line 2 (Lock 0 (at (codes "k008")))
    ∷ line 2 (Lock 0 (at (codes "k011"))) ∷ line 2 (Lock 0 (at (codes "k000"))) ∷ line 2 (Lock 0 (at (codes "k004"))) ∷ line 2 (Lock 0 (at (codes "k012")))
    ∷ line 2 (Escalate 0) ∷ line 1 (Try 0 (at (codes "k013"))) ∷ line 1 (Lock 0 (at (codes "k005"))) ∷ line 1 (Try 0 (at (codes "k004")))
    ∷ line 1 (Lock 0 (at (codes "k001"))) ∷ line 1 (Try 0 (at (codes "k000"))) ∷ line 1 (Lock 0 (at (codes "k009"))) ∷ [])

abbrev pub trace_13 : TraceView
trace_13 = trace 1 1 1 65536 (
    line 2 (Lock 0 (at (codes "k000"))) ∷ line 3 (Lock 0 (at (codes "k003"))) ∷ line 3 (Lock 0 (from_to (codes "k000") (codes "k001"))) ∷ line 3 (Escalate 0)
    ∷ line 1 (Lock 0 (at (codes "k001"))) ∷ line 1 (Lock 0 (at (codes "k000"))) ∷ line 1 (Lock 0 (at (codes "k001"))) ∷ line 1 (Escalate 0)
    ∷ line 1 (Lock 0 (at (codes "k005"))) ∷ line 1 (Lock 0 (at (codes "k003"))) ∷ line 2 Abort ∷ [])

abbrev pub trace_14 : TraceView
trace_14 = trace 1 1 4 0 (
    line 3 (Try 0 (at (codes "k000"))) ∷ line 3 (Lock 0 (at (codes "k002"))) ∷ line 6 (Try 0 (at (codes "k001"))) ∷ line 4 (Lock 0 (at (codes "k004")))
    ∷ line 6 (Lock 0 (at (codes "k003"))) ∷ line 4 (Lock 0 (at (codes "k001"))) ∷ line 3 (Lock 0 (at (codes "k004"))) ∷ line 1 (Lock 0 (at (codes "k003")))
    ∷ line 1 (Escalate 0) ∷ line 4 (Try 0 (at (codes "k018"))) ∷ line 6 Abort ∷ [])

abbrev pub trace_15 : TraceView
trace_15 = trace 2 3 7 20 (
    line 1 Big ∷ line 2 Big ∷ line 2 (Lock 1 (at (codes "k005"))) ∷ line 2 (Lock 1 (at (codes "k003"))) ∷ line 2 (Try 2 (at (codes "k001")))
    ∷ line 2 (Lock 1 (at (codes "k002"))) ∷ line 1 (Lock 0 (at (codes "k003"))) ∷ line 2 (Try 1 (at (codes "k008"))) ∷ line 2 (Lock 0 (at (codes "k006")))
    ∷ line 2 (Lock 2 (at (codes "k008"))) ∷ line 2 (Try 0 (at (codes "k008"))) ∷ line 2 (Try 1 (at (codes "k000"))) ∷ line 2 (Lock 1 (at (codes "k002")))
    ∷ line 2 (Try 0 (at (codes "k002"))) ∷ line 1 (Lock 2 (at (codes "k006"))) ∷ line 1 (Try 2 (at (codes "k000"))) ∷ line 1 (Try 0 (at (codes "k008")))
    ∷ line 1 (Try 2 (at (codes "k000"))) ∷ line 1 (Lock 1 (at (codes "k003"))) ∷ line 1 (Try 1 (at (codes "k005"))) ∷ line 1 Big ∷ line 1 (Lock 2 (at (codes "k003"))) ∷ [])

abbrev pub trace_16 : TraceView
trace_16 = trace 2 3 6 3 (
    line 3 Big ∷ line 1 (Lock 1 (at (codes "k002"))) ∷ line 3 (Lock 2 (at (codes "k001"))) ∷ line 3 (Lock 1 (at (codes "k003"))) ∷ line 3 (Try 2 (at (codes "k003")))
    ∷ line 3 End ∷ line 5 (Try 1 (at (codes "k001"))) ∷ line 5 (Try 1 (at (codes "k001"))) ∷ line 5 (Lock 0 (at (codes "k004"))) ∷ line 5 (Lock 1 (at (codes "k001")))
    ∷ line 5 (Try 2 (at (codes "k002"))) ∷ line 5 (Lock 0 (at (codes "k000"))) ∷ line 1 (Lock 0 (at (codes "k000"))) ∷ line 2 (Lock 2 (at (codes "k000")))
    ∷ line 2 (Try 0 (at (codes "k003"))) ∷ line 1 (Lock 2 (at (codes "k003"))) ∷ line 5 (Lock 0 (at (codes "k004"))) ∷ line 5 (Try 1 (at (codes "k002")))
    ∷ line 5 (Try 2 (at (codes "k001"))) ∷ [])

abbrev pub trace_17 : TraceView
trace_17 = trace 2 2 5 3 (
    line 9 (Try 0 (at (codes "b"))) ∷ line 7 (Try 1 (at (codes "g"))) ∷ line 11 (Try 0 (between (After (codes "g")) (After (codes "g")))) ∷ line 12 End
    ∷ line 9 (Lock 0 (at (codes "g"))) ∷ line 1 (Try 1 (at (codes "a"))) ∷ line 7 (Try 0 (at (codes "d")))
    ∷ line 2 (Try 0 (between (After (codes "f")) (After (codes "f")))) ∷ [])

abbrev pub trace_18 : TraceView
trace_18 = trace 1 1 2 20 (
    line 1 (Lock 0 (at (codes "k001"))) ∷ line 2 (Lock 0 (at (codes "k002"))) ∷ line 2 (Lock 0 (at (codes "k001"))) ∷ line 1 (Lock 0 (at (codes "k002")))
    ∷ line 1 (Lock 0 (at (codes "k003"))) ∷ line 2 (Try 0 (at (codes "k001"))) ∷ line 2 (Try 0 (at (codes "k004"))) ∷ [])

-- what an independent reading of the rules says of each, from the place that is given
pub record RandomJoins : Type 0 where
  pub run_0 : ran_text (serial trace_0 1000) ≡
      codes "1000 4 ask 0 \"k004\" \"k004\" buffered\n1001 9 ask 0 \"k009\" \"k009\" granted\n1002 6 ask 0 \"k026\" \"k026\" granted\n"
      ++ codes "1003 5 ask 0 \"k005\" \"k005\" granted\n1004 1 ask 0 \"k001\" \"k001\" granted\n1005 3 ask 0 \"k023\" \"k023\" granted\n1006 7 join 0 6 6\n1007 3 join 0 6 6\n"
      ++ codes "1008 3 free 0 \"k023\" \"k023\" 1\n1009 10 ask 0 \"k010\" \"k010\" granted\n1010 2 join 0 6 6\n1011 6 join 0 6 6\n1012 6 free 0 \"k026\" \"k026\" 1\n"
      ++ codes "1013 8 ask 0 \"k008\" \"k008\" granted\n1014 8 join 0 6 6\n1015 8 free 0 \"k008\" \"k008\" 1\n1016 10 ask 0 \"k009\" \"k009\" held by 9\n"
      ++ codes "1017 5 ask 0 \"k006\" \"k006\" granted\n1018 4 join 0 6 5\n1019 4 ask 0 \"k001\" \"k001\" held by 1\n1020 9 ask 0 \"k007\" \"k009\" granted\n"
      ++ codes "1021 1 ask 0 \"k002\" \"k002\" granted\n1022 1 free 0 \"k001\" \"k001\" 1\n1023 1 free 0 \"k002\" \"k002\" 1\n1024 4 ask 0 \"k001\" \"k001\" granted\n"
      ++ codes "1025 4 ask 0 \"k003\" \"k004\" granted\n1026 10 ask 0 \"k009\" \"k009\" held by 9\n1027 4 free 0 \"k004\" \"k004\" 1\n1028 4 free 0 \"k001\" \"k001\" 1\n"
      ++ codes "1029 4 free 0 \"k003\" \"k004\" 0\n1030 10 ask 0 \"k009\" \"k009\" held by 9\n1031 5 free 0 \"k005\" \"k005\" 1\n1032 5 free 0 \"k006\" \"k006\" 0\n"
      ++ codes "1033 10 ask 0 \"k009\" \"k009\" held by 9\n1034 9 free 0 \"k009\" \"k009\" 1\n1035 9 free 0 \"k007\" \"k009\" 0\n1036 10 ask 0 \"k009\" \"k009\" granted\n"
      ++ codes "1037 10 free 0 \"k010\" \"k010\" 1\n1038 10 free 0 \"k009\" \"k009\" 1\ntxn 1 done\ntxn 2 outoflocks 1011 6\ntxn 3 outoflocks 1008 6\ntxn 4 done\ntxn 5 done\n"
      ++ codes "txn 6 outoflocks 1012 6\ntxn 7 outoflocks 1007 6\ntxn 8 outoflocks 1015 6\ntxn 9 done\ntxn 10 done\nend 39 0\n"
  pub run_1 : ran_text (serial trace_1 0) ≡
      codes "0 4 ask 0 \"k000\" \"k000\" granted\n1 4 ask 0 \"k002\" \"k002\" granted\n2 7 ask 0 \"k001\" \"k001\" granted\n3 3 ask 0 \"k004\" \"k004\" granted\n"
      ++ codes "4 7 ask 0 \"k003\" \"k003\" granted\n5 18 ask 0 \"k005\" \"k005\" granted\n6 18 ask 0 \"k007\" \"k007\" granted\n7 19 ask 0 \"k006\" \"k006\" granted\n"
      ++ codes "8 16 ask 0 \"k009\" \"k009\" granted\n9 19 ask 0 \"k008\" \"k008\" granted\n10 28 ask 0 \"k010\" \"k010\" granted\n11 28 ask 0 \"k012\" \"k012\" granted\n"
      ++ codes "12 29 ask 0 \"k011\" \"k011\" granted\n13 27 ask 0 \"k014\" \"k014\" granted\n14 29 ask 0 \"k013\" \"k013\" granted\n15 3 ask 0 \"k001\" \"k001\" held by 7\n"
      ++ codes "16 4 ask 0 \"k004\" \"k004\" held by 3\n17 4 who 0 \"k001\" \"k001\" 3 held by 7\n18 2 ask 0 \"k003\" \"k003\" held by 7\n"
      ++ codes "19 16 ask 0 \"k006\" \"k006\" held by 19\n20 7 free 0 \"k001\" \"k001\" 1\n21 7 free 0 \"k003\" \"k003\" 1\n22 2 ask 0 \"k003\" \"k003\" granted\n"
      ++ codes "23 2 join 0 14 13\n24 3 ask 0 \"k001\" \"k001\" held by 4\n25 3 who 0 \"k004\" \"k004\" 4 held by 3\n26 3 free 0 \"k004\" \"k004\" 1\n"
      ++ codes "27 4 ask 0 \"k004\" \"k004\" granted\n28 16 ask 0 \"k006\" \"k006\" held by 19\n29 16 ask 0 \"k006\" \"k006\" held by 19\n30 2 free 0 \"k003\" \"k003\" 1\n"
      ++ codes "31 16 ask 0 \"k006\" \"k006\" held by 19\n32 4 free 0 \"k000\" \"k000\" 1\n33 4 free 0 \"k002\" \"k002\" 0\n34 4 free 0 \"k004\" \"k004\" 1\n"
      ++ codes "35 16 ask 0 \"k006\" \"k006\" held by 19\n36 18 free 0 \"k005\" \"k005\" 1\n37 18 free 0 \"k007\" \"k007\" 1\n38 16 ask 0 \"k006\" \"k006\" held by 19\n"
      ++ codes "39 19 free 0 \"k006\" \"k006\" 1\n40 19 free 0 \"k008\" \"k008\" 1\n41 16 ask 0 \"k006\" \"k006\" granted\n42 16 free 0 \"k009\" \"k009\" 1\n"
      ++ codes "43 16 free 0 \"k006\" \"k006\" 1\n44 27 free 0 \"k014\" \"k014\" 1\n45 28 free 0 \"k010\" \"k010\" 1\n46 28 free 0 \"k012\" \"k012\" 1\n"
      ++ codes "47 29 free 0 \"k011\" \"k011\" 1\n48 29 free 0 \"k013\" \"k013\" 1\ntxn 2 done\ntxn 3 deadlock 3 4 3\ntxn 4 done\ntxn 7 done\ntxn 16 done\ntxn 18 done\n"
      ++ codes "txn 19 done\ntxn 27 done\ntxn 28 done\ntxn 29 done\nend 49 0\n"
  pub run_2 : ran_text (serial trace_2 0) ≡
      codes "0 3 ask 0 \"k002\" \"k002\" buffered\n1 3 join 0 1 1\n2 2 join 0 1 1\n3 1 join 0 1 1\n4 3 join 0 1 1\n5 3 free 0 - + 1\ntxn 1 outoflocks 4 1\n"
      ++ codes "txn 2 outoflocks 3 1\ntxn 3 outoflocks 5 1\nend 6 0\n"
  pub run_3 : ran_text (serial trace_3 274877906944) ≡
      codes "274877906944 2 ask 1 \"k002\" \"k002\" buffered\n274877906945 2 ask 1 \"k001\" \"k001\" buffered\n274877906946 1 ask 0 \"k002\" \"k002\" buffered\n"
      ++ codes "274877906947 1 free 0 - + 1\n274877906948 2 ask 2 \"k006\" \"k006\" buffered\n274877906949 3 ask 2 \"k004\" \"k004\" granted\n"
      ++ codes "274877906950 3 ask 1 \"k008\" \"k008\" granted\n274877906951 3 free 1 \"k008\" \"k008\" 1\n274877906952 3 free 2 \"k004\" \"k004\" 1\n"
      ++ codes "274877906953 4 ask 1 \"k001\" \"k001\" held by 2\n274877906954 5 ask 0 \"k007\" \"k007\" buffered\n274877906955 5 ask 0 \"k003\" \"k003\" buffered\n"
      ++ codes "274877906956 5 ask 1 \"k007\" \"k007\" granted\n274877906957 5 join 0 2 1\n274877906958 5 join 1 3 2\n274877906959 5 join 2 1 1\n"
      ++ codes "274877906960 5 ask 0 \"k005\" \"k005\" granted\n274877906961 2 ask 1 \"k000\" \"k000\" granted\n274877906962 2 ask 0 \"k005\" \"k005\" held by 5\n"
      ++ codes "274877906963 4 ask 0 \"k007\" \"k007\" held by 5\n274877906964 2 free 1 \"k002\" \"k002\" 1\n274877906965 2 free 1 \"k001\" \"k001\" 0\n"
      ++ codes "274877906966 2 free 1 \"k000\" \"k000\" 1\n274877906967 2 free 2 - + 1\n274877906968 4 ask 0 \"k007\" \"k007\" held by 5\n"
      ++ codes "274877906969 5 free 0 \"k007\" \"k007\" 1\n274877906970 5 free 0 \"k003\" \"k003\" 0\n274877906971 5 free 0 \"k005\" \"k005\" 0\n"
      ++ codes "274877906972 5 free 1 \"k007\" \"k007\" 1\n274877906973 4 ask 0 \"k007\" \"k007\" granted\n274877906974 4 free 0 \"k007\" \"k007\" 1\ntxn 1 done\ntxn 2 done\n"
      ++ codes "txn 3 done\ntxn 4 done\ntxn 5 done\nend 31 0\n"
  pub run_4 : ran_text (serial trace_4 0) ≡
      codes "0 1 ask 0 \"k000\" \"k000\" buffered\n1 3 ask 0 \"k003\" \"k003\" granted\n2 3 ask 0 \"k000\" \"k001\" held by 1\n3 2 ask 0 \"k002\" \"k002\" granted\n"
      ++ codes "4 2 ask 0 \"k000\" \"k001\" held by 1\n5 1 ask 0 \"k001\" \"k001\" granted\n6 1 free 0 \"k000\" \"k000\" 1\n7 1 free 0 \"k001\" \"k001\" 1\n"
      ++ codes "8 2 ask 0 \"k000\" \"k001\" granted\n9 2 join 0 3 2\n10 2 ask 0 \"k001\" \"k001\" granted\n11 2 ask 0 \"k000\" \"k000\" granted\n"
      ++ codes "12 3 ask 0 \"k000\" \"k001\" held by 2\n13 2 free 0 \"k002\" \"k002\" 1\n14 2 free 0 \"k000\" \"k001\" 0\n15 2 free 0 \"k001\" \"k001\" 0\n"
      ++ codes "16 2 free 0 \"k000\" \"k000\" 0\n17 3 ask 0 \"k000\" \"k001\" granted\n18 3 ask 0 \"k005\" \"k005\" granted\n19 3 free 0 \"k003\" \"k003\" 1\n"
      ++ codes "20 3 free 0 \"k000\" \"k001\" 1\n21 3 free 0 \"k005\" \"k005\" 1\ntxn 1 done\ntxn 2 done\ntxn 3 done\nend 22 0\n"
  pub run_5 : ran_text (serial trace_5 274877906944) ≡
      codes "274877906944 2 ask 0 \"d\"* \"d\"* granted\n274877906945 2 free 0 \"d\"* \"d\"* 1\n274877906946 4 ask 0 \"d\" \"d\" granted\n"
      ++ codes "274877906947 3 ask 0 \"c\"* \"c\"* granted\n274877906948 4 ask 0 \"a\"* \"a\"* granted\n274877906949 4 ask 0 \"d\"* \"d\"* granted\n274877906950 3 join 0 4 3\n"
      ++ codes "274877906951 3 ask 0 \"d\"* \"d\"* held by 4\n274877906952 3 join 0 3 3\n274877906953 3 free 0 \"c\"* \"c\"* 1\n274877906954 4 free 0 \"d\" \"d\" 1\n"
      ++ codes "274877906955 4 free 0 \"a\"* \"a\"* 1\n274877906956 4 free 0 \"d\"* \"d\"* 0\ntxn 2 done\ntxn 3 done\ntxn 4 done\nend 13 0\n"
  pub run_6 : ran_text (serial trace_6 1000) ≡
      codes "1000 5 ask 0 \"k000\" \"k000\" buffered\n1001 4 ask 0 \"k004\" \"k004\" granted\n1002 4 ask 0 \"k000\" \"k000\" held by 5\n"
      ++ codes "1003 3 ask 0 \"k003\" \"k003\" granted\n1004 3 ask 0 \"k000\" \"k001\" held by 5\n1005 2 ask 0 \"k002\" \"k002\" granted\n"
      ++ codes "1006 2 ask 0 \"k000\" \"k001\" held by 5\n1007 1 ask 0 \"k001\" \"k001\" granted\n1008 1 ask 0 \"k000\" \"k000\" held by 5\n1009 5 free 0 - + 1\n"
      ++ codes "1010 1 ask 0 \"k000\" \"k000\" granted\n1011 1 join 0 5 4\n1012 1 free 0 \"k001\" \"k001\" 1\n1013 1 free 0 \"k000\" \"k000\" 0\n"
      ++ codes "1014 2 ask 0 \"k000\" \"k001\" granted\n1015 2 ask 0 \"k000\" \"k000\" granted\n1016 2 ask 0 \"k005\" \"k005\" granted\n1017 2 ask 0 \"k007\" \"k007\" granted\n"
      ++ codes "1018 3 ask 0 \"k000\" \"k001\" held by 2\n1019 4 ask 0 \"k000\" \"k000\" held by 2\n1020 3 ask 0 \"k000\" \"k001\" held by 2\n"
      ++ codes "1021 4 ask 0 \"k000\" \"k000\" held by 2\n1022 2 free 0 \"k002\" \"k002\" 1\n1023 2 free 0 \"k000\" \"k001\" 1\n1024 2 free 0 \"k000\" \"k000\" 0\n"
      ++ codes "1025 2 free 0 \"k005\" \"k005\" 1\n1026 2 free 0 \"k007\" \"k007\" 1\n1027 3 ask 0 \"k000\" \"k001\" granted\n1028 3 ask 0 \"k002\" \"k002\" granted\n"
      ++ codes "1029 3 join 0 4 2\n1030 3 ask 0 \"k006\" \"k006\" granted\n1031 3 free 0 \"k003\" \"k003\" 1\n1032 3 free 0 \"k000\" \"k001\" 0\n"
      ++ codes "1033 3 free 0 \"k002\" \"k002\" 0\n1034 3 free 0 \"k006\" \"k006\" 1\n1035 4 ask 0 \"k000\" \"k000\" granted\n1036 4 ask 0 \"k003\" \"k003\" granted\n"
      ++ codes "1037 4 ask 0 \"k001\" \"k001\" granted\n1038 4 ask 0 \"k004\" \"k004\" granted\n1039 4 free 0 \"k004\" \"k004\" 1\n1040 4 free 0 \"k000\" \"k000\" 1\n"
      ++ codes "1041 4 free 0 \"k003\" \"k003\" 1\n1042 4 free 0 \"k001\" \"k001\" 1\n1043 4 free 0 \"k004\" \"k004\" 0\ntxn 1 done\ntxn 2 done\ntxn 3 done\ntxn 4 aborted\n"
      ++ codes "txn 5 aborted\nend 44 0\n"
  pub run_7 : ran_text (serial trace_7 0) ≡
      codes "0 4 ask 0 \"k000\" \"k000\" granted\n1 4 ask 0 \"k002\" \"k002\" granted\n2 9 ask 0 \"k001\" \"k001\" granted\n3 7 ask 0 \"k004\" \"k004\" granted\n"
      ++ codes "4 9 ask 0 \"k003\" \"k003\" granted\n5 7 ask 0 \"k001\" \"k001\" held by 9\n6 4 ask 0 \"k004\" \"k004\" held by 7\n7 4 who 0 \"k001\" \"k001\" 7 held by 9\n"
      ++ codes "8 1 ask 0 \"k003\" \"k003\" held by 9\n9 9 free 0 \"k001\" \"k001\" 1\n10 9 free 0 \"k003\" \"k003\" 1\n11 1 ask 0 \"k003\" \"k003\" granted\n12 1 join 0 4 3\n"
      ++ codes "13 4 ask 0 \"k004\" \"k004\" held by 7\n14 4 who 0 \"k001\" \"k001\" 7 held by 4\n15 4 free 0 \"k000\" \"k000\" 1\n16 4 free 0 \"k002\" \"k002\" 0\n"
      ++ codes "17 7 ask 0 \"k001\" \"k001\" granted\n18 1 free 0 \"k003\" \"k003\" 1\n19 7 free 0 \"k004\" \"k004\" 1\n20 7 free 0 \"k001\" \"k001\" 1\ntxn 1 done\n"
      ++ codes "txn 4 deadlock 4 7 4\ntxn 7 done\ntxn 9 done\nend 21 0\n"
  pub run_8 : ran_text (serial trace_8 1000) ≡
      codes "1000 5 ask 0 \"k000\" \"k000\" granted\n1001 5 ask 0 \"k002\" \"k002\" granted\n1002 9 ask 0 \"k001\" \"k001\" granted\n1003 4 ask 1 \"k004\" \"k004\" granted\n"
      ++ codes "1004 9 ask 0 \"k003\" \"k003\" granted\n1005 16 ask 0 \"k005\" \"k005\" granted\n1006 16 ask 0 \"k007\" \"k007\" granted\n"
      ++ codes "1007 19 ask 0 \"k006\" \"k006\" granted\n1008 13 ask 1 \"k009\" \"k009\" granted\n1009 19 join 0 7 7\n1010 19 join 1 2 2\n1011 19 free 0 \"k006\" \"k006\" 1\n"
      ++ codes "1012 4 ask 0 \"k001\" \"k001\" held by 9\n1013 5 ask 1 \"k004\" \"k004\" held by 4\n1014 5 who 0 \"k001\" \"k001\" 4 held by 9\n"
      ++ codes "1015 3 ask 0 \"k003\" \"k003\" held by 9\n1016 13 ask 0 \"k006\" \"k006\" granted\n1017 16 join 0 7 7\n1018 16 join 1 2 2\n1019 16 free 0 \"k005\" \"k005\" 1\n"
      ++ codes "1020 16 free 0 \"k007\" \"k007\" 1\n1021 3 ask 0 \"k003\" \"k003\" held by 9\n1022 4 ask 0 \"k001\" \"k001\" held by 9\n"
      ++ codes "1023 5 ask 1 \"k004\" \"k004\" held by 4\n1024 5 who 0 \"k001\" \"k001\" 4 held by 9\n1025 12 ask 0 \"k008\" \"k008\" granted\n1026 12 join 0 6 6\n"
      ++ codes "1027 9 free 0 \"k001\" \"k001\" 1\n1028 9 free 0 \"k003\" \"k003\" 1\n1029 3 ask 0 \"k003\" \"k003\" granted\n1030 3 join 0 5 4\n"
      ++ codes "1031 3 ask 0 \"k002\" \"k002\" held by 5\n1032 4 ask 0 \"k001\" \"k001\" held by 5\n1033 4 who 1 \"k004\" \"k004\" 5 held by 4\n"
      ++ codes "1034 4 free 1 \"k004\" \"k004\" 1\n1035 5 ask 1 \"k004\" \"k004\" granted\n1036 5 ask 0 \"k013\" \"k013\" granted\n1037 3 free 0 \"k003\" \"k003\" 1\n"
      ++ codes "1038 5 free 0 \"k000\" \"k000\" 1\n1039 5 free 0 \"k002\" \"k002\" 0\n1040 5 free 0 \"k013\" \"k013\" 1\n1041 5 free 1 \"k004\" \"k004\" 1\n"
      ++ codes "1042 12 free 0 \"k008\" \"k008\" 1\n1043 13 free 0 \"k006\" \"k006\" 1\n1044 13 free 1 \"k009\" \"k009\" 1\ntxn 3 done\ntxn 4 deadlock 4 5 4\ntxn 5 done\n"
      ++ codes "txn 9 done\ntxn 12 done\ntxn 13 done\ntxn 16 outoflocks 1019 9\ntxn 19 outoflocks 1011 9\nend 45 0\n"
  pub run_9 : ran_text (serial trace_9 0) ≡
      codes "0 2 ask 0 \"k000\" \"k000\" buffered\n1 4 ask 0 \"k004\" \"k004\" granted\n2 4 ask 0 \"k000\" \"k000\" held by 2\n3 3 ask 0 \"k003\" \"k003\" granted\n"
      ++ codes "4 3 ask 0 \"k000\" \"k001\" held by 2\n5 1 ask 0 \"k001\" \"k001\" granted\n6 1 ask 0 \"k000\" \"k001\" held by 2\n7 2 free 0 - + 1\n"
      ++ codes "8 1 ask 0 \"k000\" \"k001\" granted\n9 1 ask 0 \"k003\" \"k003\" held by 3\n10 1 who 0 \"k000\" \"k001\" 3 held by 1\n11 1 free 0 \"k001\" \"k001\" 1\n"
      ++ codes "12 1 free 0 \"k000\" \"k001\" 0\n13 3 ask 0 \"k000\" \"k001\" granted\n14 3 ask 0 \"k002\" \"k002\" granted\n15 3 join 0 4 2\n"
      ++ codes "16 3 ask 0 \"k000\" \"k000\" granted\n17 4 ask 0 \"k000\" \"k000\" held by 3\n18 4 ask 0 \"k000\" \"k000\" held by 3\n19 3 free 0 \"k003\" \"k003\" 1\n"
      ++ codes "20 3 free 0 \"k000\" \"k001\" 0\n21 3 free 0 \"k002\" \"k002\" 0\n22 3 free 0 \"k000\" \"k000\" 0\n23 4 ask 0 \"k000\" \"k000\" granted\n"
      ++ codes "24 4 free 0 \"k004\" \"k004\" 1\n25 4 free 0 \"k000\" \"k000\" 1\ntxn 1 deadlock 1 3 1\ntxn 2 aborted\ntxn 3 done\ntxn 4 done\nend 26 0\n"
  pub run_10 : ran_text (serial trace_10 1000) ≡
      codes "1000 1 ask 0 \"k003\" \"k003\" buffered\n1001 1 join 0 1 1\n1002 1 free 0 - + 1\n1003 2 ask 0 \"k009\" \"k009\" granted\n1004 2 join 0 1 1\n"
      ++ codes "1005 2 free 0 \"k009\" \"k009\" 1\n1006 3 ask 0 \"k006\" \"k006\" granted\n1007 3 join 0 1 1\n1008 3 free 0 \"k006\" \"k006\" 1\ntxn 1 outoflocks 1002 1\n"
      ++ codes "txn 2 outoflocks 1005 1\ntxn 3 outoflocks 1008 1\nend 9 0\n"
  pub run_11 : ran_text (serial trace_11 0) ≡
      codes "0 1 ask 0 \"k001\" \"k001\" buffered\n1 2 ask 0 \"k002\" \"k002\" granted\n2 3 ask 0 \"k003\" \"k003\" granted\n3 4 ask 0 \"k004\" \"k004\" granted\n"
      ++ codes "4 5 ask 0 \"k005\" \"k005\" granted\n5 6 ask 0 \"k006\" \"k006\" granted\n6 7 join 0 6 6\n7 3 join 0 6 6\n8 3 free 0 \"k003\" \"k003\" 1\n"
      ++ codes "9 6 ask 0 \"k005\" \"k006\" held by 5\n10 2 ask 0 \"k001\" \"k001\" held by 1\n11 5 ask 0 \"k005\" \"k006\" held by 6\n"
      ++ codes "12 5 who 0 \"k005\" \"k006\" 6 held by 5\n13 5 free 0 \"k005\" \"k005\" 1\n14 2 ask 0 \"k001\" \"k001\" held by 1\n15 6 ask 0 \"k005\" \"k006\" granted\n"
      ++ codes "16 6 ask 0 \"k007\" \"k007\" granted\n17 4 ask 0 \"k002\" \"k002\" held by 2\n18 4 who 0 \"k001\" \"k001\" 2 held by 1\n19 1 ask 0 \"k002\" \"k002\" held by 2\n"
      ++ codes "20 1 who 0 \"k001\" \"k001\" 2 held by 1\n21 1 free 0 - + 1\n22 2 ask 0 \"k001\" \"k001\" granted\n23 2 ask 0 \"k001\" \"k002\" granted\n"
      ++ codes "24 4 ask 0 \"k002\" \"k002\" held by 2\n25 2 ask 0 \"k021\" \"k021\" granted\n26 6 free 0 \"k006\" \"k006\" 1\n27 6 free 0 \"k005\" \"k006\" 0\n"
      ++ codes "28 6 free 0 \"k007\" \"k007\" 1\n29 4 ask 0 \"k002\" \"k002\" held by 2\n30 2 free 0 \"k002\" \"k002\" 1\n31 2 free 0 \"k001\" \"k001\" 0\n"
      ++ codes "32 2 free 0 \"k001\" \"k002\" 0\n33 2 free 0 \"k021\" \"k021\" 1\n34 4 ask 0 \"k002\" \"k002\" granted\n35 4 free 0 \"k004\" \"k004\" 1\n"
      ++ codes "36 4 free 0 \"k002\" \"k002\" 1\ntxn 1 deadlock 1 2 1\ntxn 2 done\ntxn 3 outoflocks 8 6\ntxn 4 done\ntxn 5 deadlock 5 6 5\ntxn 6 aborted\ntxn 7 outoflocks 7 6\n"
      ++ codes "end 37 0\n"
  pub run_12 : ran_text (serial trace_12 0) ≡
      codes "0 2 ask 0 \"k001\" \"k001\" buffered\n1 2 join 0 1 1\n2 2 free 0 - + 1\n3 1 ask 0 \"k013\" \"k013\" granted\n4 1 ask 0 \"k005\" \"k005\" granted\n"
      ++ codes "5 1 join 0 2 1\n6 1 ask 0 \"k004\" \"k004\" granted\n7 1 join 0 2 1\n8 1 ask 0 \"k001\" \"k001\" granted\n9 1 join 0 2 1\n10 1 ask 0 \"k000\" \"k000\" granted\n"
      ++ codes "11 1 join 0 2 1\n12 1 ask 0 \"k009\" \"k009\" granted\n13 1 free 0 \"k013\" \"k013\" 1\n14 1 free 0 \"k005\" \"k005\" 0\n15 1 free 0 \"k004\" \"k004\" 0\n"
      ++ codes "16 1 free 0 \"k001\" \"k001\" 0\n17 1 free 0 \"k000\" \"k000\" 0\n18 1 free 0 \"k009\" \"k009\" 0\ntxn 1 done\ntxn 2 outoflocks 2 1\nend 19 0\n"
  pub run_13 : ran_text (serial trace_13 0) ≡
      codes "0 2 ask 0 \"k000\" \"k000\" buffered\n1 3 join 0 1 1\n2 1 join 0 1 1\n3 2 free 0 - + 1\ntxn 1 outoflocks 3 1\ntxn 2 aborted\ntxn 3 outoflocks 2 1\nend 4 0\n"
  pub run_14 : ran_text (serial trace_14 1000) ≡
      codes "1000 3 ask 0 \"k000\" \"k000\" granted\n1001 3 ask 0 \"k002\" \"k002\" granted\n1002 6 ask 0 \"k001\" \"k001\" granted\n1003 4 ask 0 \"k004\" \"k004\" granted\n"
      ++ codes "1004 6 join 0 4 4\n1005 6 free 0 \"k001\" \"k001\" 1\n1006 4 ask 0 \"k001\" \"k001\" granted\n1007 3 join 0 4 4\n1008 3 free 0 \"k000\" \"k000\" 1\n"
      ++ codes "1009 3 free 0 \"k002\" \"k002\" 1\n1010 1 ask 0 \"k003\" \"k003\" granted\n1011 1 join 0 3 3\n1012 4 ask 0 \"k018\" \"k018\" granted\n"
      ++ codes "1013 1 free 0 \"k003\" \"k003\" 1\n1014 4 free 0 \"k004\" \"k004\" 1\n1015 4 free 0 \"k001\" \"k001\" 1\n1016 4 free 0 \"k018\" \"k018\" 1\ntxn 1 done\n"
      ++ codes "txn 3 outoflocks 1008 4\ntxn 4 done\ntxn 6 outoflocks 1005 4\nend 17 0\n"
  pub run_15 : ran_text (serial trace_15 274877906944) ≡
      codes "274877906944 2 ask 1 \"k005\" \"k005\" buffered\n274877906945 2 ask 1 \"k003\" \"k003\" buffered\n274877906946 2 ask 2 \"k001\" \"k001\" buffered\n"
      ++ codes "274877906947 2 ask 1 \"k002\" \"k002\" buffered\n274877906948 1 join 0 0 0\n274877906949 1 join 1 3 1\n274877906950 1 join 2 1 1\n"
      ++ codes "274877906951 1 ask 0 \"k003\" \"k003\" buffered\n274877906952 2 ask 1 \"k008\" \"k008\" granted\n274877906953 2 join 0 1 1\n274877906954 2 join 1 2 1\n"
      ++ codes "274877906955 2 join 2 1 1\n274877906956 2 ask 0 \"k006\" \"k006\" granted\n274877906957 2 join 0 2 2\n274877906958 2 join 1 1 1\n274877906959 2 join 2 1 1\n"
      ++ codes "274877906960 2 free 0 \"k006\" \"k006\" 1\n274877906961 2 free 1 \"k005\" \"k005\" 1\n274877906962 2 free 1 \"k003\" \"k003\" 0\n"
      ++ codes "274877906963 2 free 1 \"k002\" \"k002\" 0\n274877906964 2 free 1 \"k008\" \"k008\" 0\n274877906965 2 free 2 - + 1\n"
      ++ codes "274877906966 1 ask 2 \"k006\" \"k006\" granted\n274877906967 1 ask 2 \"k000\" \"k000\" granted\n274877906968 1 ask 0 \"k008\" \"k008\" granted\n"
      ++ codes "274877906969 1 join 0 2 1\n274877906970 1 join 1 0 0\n274877906971 1 join 2 2 1\n274877906972 1 ask 2 \"k000\" \"k000\" granted\n"
      ++ codes "274877906973 1 ask 1 \"k003\" \"k003\" granted\n274877906974 1 ask 1 \"k005\" \"k005\" granted\n274877906975 1 join 0 1 1\n274877906976 1 join 1 2 1\n"
      ++ codes "274877906977 1 join 2 1 1\n274877906978 1 ask 2 \"k003\" \"k003\" granted\n274877906979 1 free 0 \"k003\" \"k003\" 1\n"
      ++ codes "274877906980 1 free 0 \"k008\" \"k008\" 0\n274877906981 1 free 1 \"k003\" \"k003\" 1\n274877906982 1 free 1 \"k005\" \"k005\" 0\n"
      ++ codes "274877906983 1 free 2 \"k006\" \"k006\" 1\n274877906984 1 free 2 \"k000\" \"k000\" 0\n274877906985 1 free 2 \"k000\" \"k000\" 0\n"
      ++ codes "274877906986 1 free 2 \"k003\" \"k003\" 0\ntxn 1 done\ntxn 2 outoflocks 274877906960 4\nend 43 0\n"
  pub run_16 : ran_text (serial trace_16 0) ≡
      codes "0 1 ask 1 \"k002\" \"k002\" buffered\n1 3 ask 2 \"k001\" \"k001\" buffered\n2 3 ask 1 \"k003\" \"k003\" granted\n3 3 join 0 0 0\n4 3 join 1 2 2\n"
      ++ codes "5 3 join 2 1 1\n6 3 free 1 \"k003\" \"k003\" 1\n7 3 free 2 - + 1\n8 5 ask 1 \"k001\" \"k001\" granted\n9 5 ask 1 \"k001\" \"k001\" granted\n"
      ++ codes "10 5 ask 0 \"k004\" \"k004\" buffered\n11 5 ask 1 \"k001\" \"k001\" granted\n12 5 ask 2 \"k002\" \"k002\" granted\n13 5 ask 0 \"k000\" \"k000\" buffered\n"
      ++ codes "14 1 ask 0 \"k000\" \"k000\" held by 5\n15 2 ask 2 \"k000\" \"k000\" granted\n16 2 join 0 2 1\n17 2 join 1 2 2\n18 2 join 2 2 2\n"
      ++ codes "19 2 ask 0 \"k003\" \"k003\" held by 5\n20 5 ask 0 \"k004\" \"k004\" granted\n21 5 ask 1 \"k002\" \"k002\" held by 1\n22 5 ask 2 \"k001\" \"k001\" granted\n"
      ++ codes "23 2 free 2 \"k000\" \"k000\" 1\n24 1 ask 0 \"k000\" \"k000\" held by 5\n25 5 free 0 \"k004\" \"k004\" 1\n26 5 free 0 \"k000\" \"k000\" 0\n"
      ++ codes "27 5 free 0 \"k004\" \"k004\" 0\n28 5 free 1 \"k001\" \"k001\" 1\n29 5 free 1 \"k001\" \"k001\" 0\n30 5 free 1 \"k001\" \"k001\" 0\n"
      ++ codes "31 5 free 2 \"k002\" \"k002\" 1\n32 5 free 2 \"k001\" \"k001\" 1\n33 1 ask 0 \"k000\" \"k000\" granted\n34 1 ask 2 \"k003\" \"k003\" granted\n"
      ++ codes "35 1 free 0 \"k000\" \"k000\" 1\n36 1 free 1 - + 1\n37 1 free 2 \"k003\" \"k003\" 1\ntxn 1 done\ntxn 2 done\ntxn 3 outoflocks 6 3\ntxn 5 done\nend 38 0\n"
  pub run_17 : ran_text (serial trace_17 0) ≡
      codes "0 9 ask 0 \"b\" \"b\" buffered\n1 7 ask 1 \"g\" \"g\" buffered\n2 11 ask 0 \"g\"* \"g\"* granted\n3 9 ask 0 \"g\" \"g\" granted\n4 1 ask 1 \"a\" \"a\" granted\n"
      ++ codes "5 7 join 0 3 2\n6 7 join 1 2 2\n7 7 ask 0 \"d\" \"d\" held by 9\n8 2 ask 0 \"f\"* \"f\"* held by 9\n9 1 free 1 \"a\" \"a\" 1\n10 7 free 1 - + 1\n"
      ++ codes "11 9 free 0 \"b\" \"b\" 1\n12 9 free 0 \"g\" \"g\" 0\n13 11 free 0 \"g\"* \"g\"* 1\ntxn 1 done\ntxn 2 done\ntxn 7 done\ntxn 9 done\ntxn 11 done\ntxn 12 done\n"
      ++ codes "end 14 0\n"
  pub run_18 : ran_text (serial trace_18 0) ≡
      codes "0 1 ask 0 \"k001\" \"k001\" buffered\n1 2 ask 0 \"k002\" \"k002\" granted\n2 2 join 0 2 2\n3 2 free 0 \"k002\" \"k002\" 1\n4 1 ask 0 \"k002\" \"k002\" granted\n"
      ++ codes "5 1 join 0 2 1\n6 1 ask 0 \"k003\" \"k003\" granted\n7 1 free 0 \"k001\" \"k001\" 1\n8 1 free 0 \"k002\" \"k002\" 0\n9 1 free 0 \"k003\" \"k003\" 1\n"
      ++ codes "txn 1 done\ntxn 2 outoflocks 3 2\nend 10 0\n"

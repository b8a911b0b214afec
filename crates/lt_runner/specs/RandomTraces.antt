-- Random traces whose runs are known: deadlocks, some of them at a retry, several wishes, buffers, other first places.
use Rattle.std.specs.Prelude.{◌≡◌, ℕ, List, [], ◌∷◌, ◌++◌, codes}
use Rattle.lt_ranges.specs.declared.key.Key.TheVariants.{Below, Bytes, Above}
use Rattle.lt_ranges.specs.Short.{between, from_to, at}
use Rattle.lt_trace.specs.declared.line.Line.{Line}
use Rattle.lt_trace.specs.declared.line.LineDeed.TheVariants.{Try, Lock, End, Abort, Escalate}
use Rattle.lt_trace.specs.Trace.{TraceView}
use Rattle.lt_runner.specs.Rows.{line}
use Rattle.lt_runner.specs.Serial.{serial, ran_text}

-- a trace of this version, with so many trees, this limit and this buffer
abbrev pub trace : ℕ → ℕ → ℕ → ℕ → List Line → TraceView
trace version trees limit buffer lines = record { version = version; trees = trees; limit = limit; buffer = buffer; lines = lines }

abbrev pub trace_0 : TraceView
trace_0 = trace 1 2 64 0 (
    line 4 (Try 0 (at (codes "k004"))) ∷ line 2 (Try 0 (at (codes "k002"))) ∷ line 6 (Try 0 (at (codes "k006"))) ∷ line 5 (Try 0 (at (codes "k005")))
    ∷ line 3 (Try 0 (at (codes "k003"))) ∷ line 1 (Try 0 (at (codes "k001"))) ∷ line 5 (Lock 0 (from_to (codes "k004") (codes "k005")))
    ∷ line 3 (Lock 0 (from_to (codes "k003") (codes "k005"))) ∷ line 7 (Lock 0 (between (Below) (Above))) ∷ line 8 (Lock 0 (between (Below) (Above))) ∷ line 1 End
    ∷ line 3 End ∷ line 4 End ∷ [])

abbrev pub trace_1 : TraceView
trace_1 = trace 1 1 64 3 (
    line 1 (Lock 0 (at (codes "k001"))) ∷ line 2 (Lock 0 (at (codes "k002"))) ∷ line 3 (Lock 0 (at (codes "k003"))) ∷ line 3 (Try 0 (at (codes "k023")))
    ∷ line 4 (Lock 0 (at (codes "k004"))) ∷ line 5 (Lock 0 (at (codes "k005"))) ∷ line 4 (Lock 0 (from_to (codes "k001") (codes "k004")))
    ∷ line 3 (Lock 0 (at (codes "k004"))) ∷ line 2 (Lock 0 (at (codes "k003"))) ∷ line 5 (Lock 0 (at (codes "k002"))) ∷ line 4 (Lock 0 (at (codes "k001")))
    ∷ line 1 (Lock 0 (at (codes "k002"))) ∷ line 2 (Try 0 (at (codes "k027"))) ∷ line 2 End ∷ line 3 End ∷ line 4 End ∷ [])

abbrev pub trace_2 : TraceView
trace_2 = trace 1 1 64 2 (
    line 14 (Lock 0 (at (codes "k014"))) ∷ line 10 (Lock 0 (at (codes "k010"))) ∷ line 8 (Lock 0 (at (codes "k008"))) ∷ line 4 (Lock 0 (at (codes "k004")))
    ∷ line 13 (Lock 0 (at (codes "k013"))) ∷ line 11 (Lock 0 (at (codes "k011"))) ∷ line 3 (Try 0 (at (codes "k023"))) ∷ line 10 (Try 0 (at (codes "k030")))
    ∷ line 9 (Lock 0 (at (codes "k009"))) ∷ line 6 (Lock 0 (at (codes "k006"))) ∷ line 5 (Lock 0 (at (codes "k005"))) ∷ [])

abbrev pub trace_3 : TraceView
trace_3 = trace 1 2 64 1 (
    line 4 (Try 0 (at (codes "k000"))) ∷ line 4 (Lock 0 (at (codes "k002"))) ∷ line 7 (Try 0 (at (codes "k001"))) ∷ line 5 (Lock 1 (at (codes "k004")))
    ∷ line 7 (Lock 0 (at (codes "k003"))) ∷ line 18 (Try 0 (at (codes "k005"))) ∷ line 18 (Lock 0 (at (codes "k007"))) ∷ line 19 (Try 0 (at (codes "k006")))
    ∷ line 15 (Lock 1 (at (codes "k009"))) ∷ line 19 (Lock 0 (at (codes "k008"))) ∷ line 5 (Lock 0 (at (codes "k001"))) ∷ line 4 (Lock 1 (at (codes "k004")))
    ∷ line 1 (Lock 0 (at (codes "k003"))) ∷ line 1 (Escalate 0) ∷ line 5 (Try 0 (at (codes "k010"))) ∷ line 15 (Lock 0 (at (codes "k006")))
    ∷ line 18 (Lock 1 (at (codes "k009"))) ∷ line 11 (Lock 0 (at (codes "k008"))) ∷ line 11 (Escalate 0) ∷ line 7 Abort ∷ line 19 Abort ∷ [])

abbrev pub trace_4 : TraceView
trace_4 = trace 1 1 64 1 (
    line 4 (Lock 0 (between (Below) (Bytes (codes "d")))) ∷ line 5 (Try 0 (between (Bytes []) (Bytes []))) ∷ line 4 (Lock 0 (between (Bytes []) (Bytes []))) ∷ [])

abbrev pub trace_5 : TraceView
trace_5 = trace 1 2 64 0 (
    line 2 (Try 0 (at (codes "k000"))) ∷ line 2 (Lock 0 (at (codes "k002"))) ∷ line 9 (Try 0 (at (codes "k001"))) ∷ line 8 (Lock 1 (at (codes "k004")))
    ∷ line 9 (Lock 0 (at (codes "k003"))) ∷ line 17 (Try 0 (at (codes "k005"))) ∷ line 17 (Lock 0 (at (codes "k007"))) ∷ line 19 (Try 0 (at (codes "k006")))
    ∷ line 18 (Lock 1 (at (codes "k009"))) ∷ line 19 (Lock 0 (at (codes "k008"))) ∷ line 26 (Try 0 (at (codes "k010"))) ∷ line 26 (Lock 0 (at (codes "k012")))
    ∷ line 29 (Try 0 (at (codes "k011"))) ∷ line 28 (Lock 1 (at (codes "k014"))) ∷ line 29 (Lock 0 (at (codes "k013"))) ∷ line 8 (Lock 0 (at (codes "k001")))
    ∷ line 2 (Lock 1 (at (codes "k004"))) ∷ line 1 (Lock 0 (at (codes "k003"))) ∷ line 1 (Escalate 0) ∷ [])

abbrev pub trace_6 : TraceView
trace_6 = trace 1 1 11 3 (
    line 4 (Try 0 (at (codes "k000"))) ∷ line 4 (Lock 0 (at (codes "k002"))) ∷ line 7 (Try 0 (at (codes "k001"))) ∷ line 6 (Lock 0 (at (codes "k004")))
    ∷ line 7 (Lock 0 (at (codes "k003"))) ∷ line 15 (Try 0 (at (codes "k005"))) ∷ line 15 (Lock 0 (at (codes "k007"))) ∷ line 18 (Try 0 (at (codes "k006")))
    ∷ line 16 (Lock 0 (at (codes "k009"))) ∷ line 18 (Lock 0 (at (codes "k008"))) ∷ line 6 (Lock 0 (at (codes "k001"))) ∷ line 4 (Lock 0 (at (codes "k004")))
    ∷ line 2 (Lock 0 (at (codes "k003"))) ∷ line 2 (Escalate 0) ∷ line 16 (Lock 0 (at (codes "k006"))) ∷ line 15 (Lock 0 (at (codes "k009")))
    ∷ line 11 (Lock 0 (at (codes "k008"))) ∷ line 11 (Escalate 0) ∷ line 15 (Lock 0 (at (codes "k018"))) ∷ line 7 End ∷ line 18 End ∷ [])

abbrev pub trace_7 : TraceView
trace_7 = trace 1 2 64 2 (
    line 3 (Lock 1 (at (codes "k003"))) ∷ line 11 (Lock 1 (at (codes "k011"))) ∷ line 5 (Lock 1 (at (codes "k005"))) ∷ line 1 (Lock 1 (at (codes "k001")))
    ∷ line 7 (Lock 1 (at (codes "k007"))) ∷ line 2 (Lock 0 (at (codes "k002"))) ∷ line 9 (Lock 1 (at (codes "k009"))) ∷ line 10 (Lock 0 (at (codes "k010")))
    ∷ line 4 (Lock 0 (at (codes "k004"))) ∷ line 6 (Lock 0 (at (codes "k006"))) ∷ line 8 (Lock 0 (at (codes "k008"))) ∷ line 8 (Lock 1 (at (codes "k009")))
    ∷ line 9 (Lock 0 (from_to (codes "k008") (codes "k009"))) ∷ line 1 (Lock 0 (from_to (codes "k001") (codes "k002"))) ∷ [])

abbrev pub trace_8 : TraceView
trace_8 = trace 1 1 64 2 (
    line 2 (Lock 0 (at (codes "k002"))) ∷ line 15 (Lock 0 (at (codes "k015"))) ∷ line 1 (Lock 0 (at (codes "k001"))) ∷ line 8 (Lock 0 (at (codes "k008")))
    ∷ line 1 (Try 0 (at (codes "k021"))) ∷ line 13 (Lock 0 (at (codes "k013"))) ∷ line 11 (Lock 0 (at (codes "k011"))) ∷ line 7 (Lock 0 (at (codes "k007")))
    ∷ line 4 (Lock 0 (at (codes "k004"))) ∷ line 7 (Try 0 (at (codes "k027"))) ∷ [])

abbrev pub trace_9 : TraceView
trace_9 = trace 1 1 8 0 (
    line 1 (Lock 0 (at (codes "k001"))) ∷ line 2 (Lock 0 (at (codes "k002"))) ∷ line 1 (Lock 0 (at (codes "k002")))
    ∷ line 2 (Lock 0 (from_to (codes "k001") (codes "k002"))) ∷ line 2 (Lock 0 (at (codes "k001"))) ∷ line 1 (Lock 0 (from_to (codes "k001") (codes "k002")))
    ∷ line 2 (Lock 0 (at (codes "k003"))) ∷ line 2 (Lock 0 (at (codes "k013"))) ∷ line 2 (Try 0 (at (codes "k034"))) ∷ line 1 (Lock 0 (at (codes "k038"))) ∷ line 1 End
    ∷ [])

abbrev pub trace_10 : TraceView
trace_10 = trace 1 2 64 0 (
    line 4 (Lock 0 (at (codes "k004"))) ∷ line 4 (Try 0 (at (codes "k024"))) ∷ line 6 (Lock 0 (at (codes "k006"))) ∷ line 1 (Lock 1 (at (codes "k001")))
    ∷ line 2 (Lock 0 (at (codes "k002"))) ∷ line 5 (Lock 1 (at (codes "k005"))) ∷ line 3 (Lock 1 (at (codes "k003"))) ∷ line 5 (Lock 0 (at (codes "k006")))
    ∷ line 4 (Lock 1 (at (codes "k005"))) ∷ line 2 (Lock 1 (at (codes "k003"))) ∷ line 6 (Lock 1 (from_to (codes "k001") (codes "k006")))
    ∷ line 1 (Lock 0 (at (codes "k002"))) ∷ line 4 (Lock 1 (from_to (codes "k003") (codes "k004"))) ∷ line 3 (Lock 0 (at (codes "k004")))
    ∷ line 6 (Lock 1 (at (codes "k001"))) ∷ line 6 (Try 0 (at (codes "k008"))) ∷ line 6 Abort ∷ [])

abbrev pub trace_11 : TraceView
trace_11 = trace 1 1 64 1 (
    line 3 (Lock 0 (at (codes "k000"))) ∷ line 2 (Lock 0 (at (codes "k002"))) ∷ line 2 (Lock 0 (at (codes "k000"))) ∷ line 2 (Try 0 (at (codes "k003"))) ∷ line 2 End
    ∷ line 1 (Lock 0 (at (codes "k001"))) ∷ line 1 (Lock 0 (from_to (codes "k000") (codes "k001"))) ∷ line 1 (Lock 0 (at (codes "k004")))
    ∷ line 1 (Try 0 (at (codes "k006"))) ∷ line 1 (Try 0 (at (codes "k006"))) ∷ line 1 End ∷ line 4 (Lock 0 (at (codes "k004"))) ∷ line 4 (Lock 0 (at (codes "k000")))
    ∷ line 4 (Try 0 (at (codes "k002"))) ∷ line 4 (Lock 0 (at (codes "k000"))) ∷ line 4 End ∷ line 3 End ∷ [])

abbrev pub trace_12 : TraceView
trace_12 = trace 1 2 64 0 (
    line 6 (Lock 0 (at (codes "k006"))) ∷ line 1 (Lock 1 (at (codes "k001"))) ∷ line 2 (Lock 0 (at (codes "k002"))) ∷ line 4 (Lock 0 (at (codes "k004")))
    ∷ line 3 (Lock 1 (at (codes "k003"))) ∷ line 5 (Lock 1 (at (codes "k005"))) ∷ line 4 (Try 0 (at (codes "k024"))) ∷ line 1 (Lock 0 (at (codes "k002")))
    ∷ line 2 (Lock 0 (from_to (codes "k002") (codes "k004"))) ∷ line 3 (Lock 0 (at (codes "k004"))) ∷ line 6 (Lock 0 (at (codes "k002")))
    ∷ line 4 (Lock 1 (at (codes "k001"))) ∷ line 2 (Lock 1 (at (codes "k003"))) ∷ line 2 (Lock 0 (from_to (codes "k002") (codes "k004")))
    ∷ line 5 (Lock 1 (at (codes "k003"))) ∷ line 5 (Lock 0 (at (codes "k019"))) ∷ line 1 (Lock 0 (at (codes "k027"))) ∷ line 1 Abort ∷ line 4 End ∷ line 5 End ∷ [])

abbrev pub trace_13 : TraceView
trace_13 = trace 1 1 6 65536 (
    line 4 (Lock 0 (at (codes "c"))) ∷ line 3 (Try 0 (at (codes "c"))) ∷ line 1 (Try 0 (at (codes "b"))) ∷ line 3 (Try 0 (at (codes "d")))
    ∷ line 2 (Lock 0 (between (Bytes []) (Bytes []))) ∷ line 1 End ∷ line 3 End ∷ line 4 (Lock 0 (between (Above) (Above))) ∷ [])

-- what an independent reading of the rules says of each, from the place that is given
pub record RandomTraces : Type 0 where
  pub run_0 : ran_text (serial trace_0 7) ≡
      codes "7 4 ask 0 \"k004\" \"k004\" granted\n8 2 ask 0 \"k002\" \"k002\" granted\n9 6 ask 0 \"k006\" \"k006\" granted\n10 5 ask 0 \"k005\" \"k005\" granted\n"
      ++ codes "11 3 ask 0 \"k003\" \"k003\" granted\n12 1 ask 0 \"k001\" \"k001\" granted\n13 5 ask 0 \"k004\" \"k005\" held by 4\n14 3 ask 0 \"k003\" \"k005\" held by 4 5\n"
      ++ codes "15 3 who 0 \"k004\" \"k005\" 5 held by 4\n16 7 ask 0 - + held by 1 2 3 4 5 6\n17 7 who 0 \"k003\" \"k005\" 3 held by 4 5\n"
      ++ codes "18 7 who 0 \"k004\" \"k005\" 5 held by 4\n19 8 ask 0 - + held by 1 2 3 4 5 6\n20 8 who 0 \"k003\" \"k005\" 3 held by 4 5\n"
      ++ codes "21 8 who 0 \"k004\" \"k005\" 5 held by 4\n22 1 free 0 \"k001\" \"k001\" 1\n23 3 ask 0 \"k003\" \"k005\" held by 4 5\n24 3 who 0 \"k004\" \"k005\" 5 held by 4\n"
      ++ codes "25 5 ask 0 \"k004\" \"k005\" held by 4\n26 7 ask 0 - + held by 2 3 4 5 6\n27 7 who 0 \"k003\" \"k005\" 3 held by 4 5\n28 7 who 0 \"k004\" \"k005\" 5 held by 4\n"
      ++ codes "29 8 ask 0 - + held by 2 3 4 5 6\n30 8 who 0 \"k003\" \"k005\" 3 held by 4 5\n31 8 who 0 \"k004\" \"k005\" 5 held by 4\n32 4 free 0 \"k004\" \"k004\" 1\n"
      ++ codes "33 3 ask 0 \"k003\" \"k005\" held by 5\n34 3 who 0 \"k004\" \"k005\" 5 held by none\n35 5 ask 0 \"k004\" \"k005\" granted\n36 7 ask 0 - + held by 2 3 5 6\n"
      ++ codes "37 7 who 0 \"k003\" \"k005\" 3 held by 5\n38 8 ask 0 - + held by 2 3 5 6\n39 8 who 0 \"k003\" \"k005\" 3 held by 5\n40 2 free 0 \"k002\" \"k002\" 1\n"
      ++ codes "41 3 ask 0 \"k003\" \"k005\" held by 5\n42 7 ask 0 - + held by 3 5 6\n43 7 who 0 \"k003\" \"k005\" 3 held by 5\n44 8 ask 0 - + held by 3 5 6\n"
      ++ codes "45 8 who 0 \"k003\" \"k005\" 3 held by 5\n46 5 free 0 \"k005\" \"k005\" 1\n47 5 free 0 \"k004\" \"k005\" 0\n48 3 ask 0 \"k003\" \"k005\" granted\n"
      ++ codes "49 3 free 0 \"k003\" \"k003\" 1\n50 3 free 0 \"k003\" \"k005\" 0\n51 7 ask 0 - + held by 6\n52 8 ask 0 - + held by 6\n53 7 ask 0 - + held by 6\n"
      ++ codes "54 8 ask 0 - + held by 6\n55 6 free 0 \"k006\" \"k006\" 1\n56 7 ask 0 - + granted\n57 8 ask 0 - + held by 7\n58 7 free 0 - + 1\n59 8 ask 0 - + granted\n"
      ++ codes "60 8 free 0 - + 1\ntxn 1 done\ntxn 2 done\ntxn 3 done\ntxn 4 done\ntxn 5 done\ntxn 6 done\ntxn 7 done\ntxn 8 done\nend 54 0\n"
  pub run_1 : ran_text (serial trace_1 274877906944) ≡
      codes "274877906944 1 ask 0 \"k001\" \"k001\" buffered\n274877906945 2 ask 0 \"k002\" \"k002\" granted\n274877906946 3 ask 0 \"k003\" \"k003\" granted\n"
      ++ codes "274877906947 3 ask 0 \"k023\" \"k023\" granted\n274877906948 4 ask 0 \"k004\" \"k004\" granted\n274877906949 5 ask 0 \"k005\" \"k005\" granted\n"
      ++ codes "274877906950 4 ask 0 \"k001\" \"k004\" held by 1 2 3\n274877906951 3 ask 0 \"k004\" \"k004\" held by 4\n274877906952 3 who 0 \"k001\" \"k004\" 4 held by 1 2 3\n"
      ++ codes "274877906953 3 free 0 \"k003\" \"k003\" 1\n274877906954 3 free 0 \"k023\" \"k023\" 1\n274877906955 4 ask 0 \"k001\" \"k004\" held by 1 2\n"
      ++ codes "274877906956 2 ask 0 \"k003\" \"k003\" granted\n274877906957 5 ask 0 \"k002\" \"k002\" held by 2\n274877906958 1 ask 0 \"k002\" \"k002\" held by 2\n"
      ++ codes "274877906959 2 ask 0 \"k027\" \"k027\" granted\n274877906960 2 free 0 \"k002\" \"k002\" 1\n274877906961 2 free 0 \"k003\" \"k003\" 1\n"
      ++ codes "274877906962 2 free 0 \"k027\" \"k027\" 1\n274877906963 1 ask 0 \"k002\" \"k002\" granted\n274877906964 4 ask 0 \"k001\" \"k004\" held by 1\n"
      ++ codes "274877906965 5 ask 0 \"k002\" \"k002\" held by 1\n274877906966 1 free 0 \"k001\" \"k001\" 1\n274877906967 1 free 0 \"k002\" \"k002\" 1\n"
      ++ codes "274877906968 4 ask 0 \"k001\" \"k004\" granted\n274877906969 4 ask 0 \"k001\" \"k001\" granted\n274877906970 4 free 0 \"k004\" \"k004\" 1\n"
      ++ codes "274877906971 4 free 0 \"k001\" \"k004\" 0\n274877906972 4 free 0 \"k001\" \"k001\" 0\n274877906973 5 ask 0 \"k002\" \"k002\" granted\n"
      ++ codes "274877906974 5 free 0 \"k005\" \"k005\" 1\n274877906975 5 free 0 \"k002\" \"k002\" 1\ntxn 1 done\ntxn 2 done\ntxn 3 deadlock 3 4 3\ntxn 4 done\ntxn 5 done\n"
      ++ codes "end 32 0\n"
  pub run_2 : ran_text (serial trace_2 0) ≡
      codes "0 14 ask 0 \"k014\" \"k014\" buffered\n1 10 ask 0 \"k010\" \"k010\" granted\n2 8 ask 0 \"k008\" \"k008\" granted\n3 4 ask 0 \"k004\" \"k004\" granted\n"
      ++ codes "4 13 ask 0 \"k013\" \"k013\" granted\n5 11 ask 0 \"k011\" \"k011\" granted\n6 3 ask 0 \"k023\" \"k023\" granted\n7 10 ask 0 \"k030\" \"k030\" granted\n"
      ++ codes "8 9 ask 0 \"k009\" \"k009\" granted\n9 6 ask 0 \"k006\" \"k006\" granted\n10 5 ask 0 \"k005\" \"k005\" granted\n11 3 free 0 \"k023\" \"k023\" 1\n"
      ++ codes "12 4 free 0 \"k004\" \"k004\" 1\n13 5 free 0 \"k005\" \"k005\" 1\n14 6 free 0 \"k006\" \"k006\" 1\n15 8 free 0 \"k008\" \"k008\" 1\n"
      ++ codes "16 9 free 0 \"k009\" \"k009\" 1\n17 10 free 0 \"k010\" \"k010\" 1\n18 10 free 0 \"k030\" \"k030\" 1\n19 11 free 0 \"k011\" \"k011\" 1\n"
      ++ codes "20 13 free 0 \"k013\" \"k013\" 1\n21 14 free 0 - + 1\ntxn 3 done\ntxn 4 done\ntxn 5 done\ntxn 6 done\ntxn 8 done\ntxn 9 done\ntxn 10 done\ntxn 11 done\n"
      ++ codes "txn 13 done\ntxn 14 done\nend 22 0\n"
  pub run_3 : ran_text (serial trace_3 1000) ≡
      codes "1000 4 ask 0 \"k000\" \"k000\" buffered\n1001 4 ask 0 \"k002\" \"k002\" granted\n1002 7 ask 0 \"k001\" \"k001\" granted\n"
      ++ codes "1003 5 ask 1 \"k004\" \"k004\" buffered\n1004 7 ask 0 \"k003\" \"k003\" granted\n1005 18 ask 0 \"k005\" \"k005\" granted\n"
      ++ codes "1006 18 ask 0 \"k007\" \"k007\" granted\n1007 19 ask 0 \"k006\" \"k006\" granted\n1008 15 ask 1 \"k009\" \"k009\" granted\n"
      ++ codes "1009 19 ask 0 \"k008\" \"k008\" granted\n1010 5 ask 0 \"k001\" \"k001\" held by 7\n1011 4 ask 1 \"k004\" \"k004\" held by 5\n"
      ++ codes "1012 4 who 0 \"k001\" \"k001\" 5 held by 7\n1013 1 ask 0 \"k003\" \"k003\" held by 7\n1014 15 ask 0 \"k006\" \"k006\" held by 19\n"
      ++ codes "1015 18 ask 1 \"k009\" \"k009\" held by 15\n1016 18 who 0 \"k006\" \"k006\" 15 held by 19\n1017 11 ask 0 \"k008\" \"k008\" held by 19\n"
      ++ codes "1018 7 free 0 \"k001\" \"k001\" 1\n1019 7 free 0 \"k003\" \"k003\" 1\n1020 1 ask 0 \"k003\" \"k003\" granted\n1021 1 join 0 7 6\n"
      ++ codes "1022 4 ask 1 \"k004\" \"k004\" held by 5\n1023 4 who 0 \"k001\" \"k001\" 5 held by 4\n1024 4 free 0 \"k000\" \"k000\" 1\n1025 4 free 0 \"k002\" \"k002\" 0\n"
      ++ codes "1026 5 ask 0 \"k001\" \"k001\" granted\n1027 5 ask 0 \"k010\" \"k010\" granted\n1028 11 ask 0 \"k008\" \"k008\" held by 19\n"
      ++ codes "1029 15 ask 0 \"k006\" \"k006\" held by 19\n1030 18 ask 1 \"k009\" \"k009\" held by 15\n1031 18 who 0 \"k006\" \"k006\" 15 held by 19\n"
      ++ codes "1032 11 ask 0 \"k008\" \"k008\" held by 19\n1033 15 ask 0 \"k006\" \"k006\" held by 19\n1034 18 ask 1 \"k009\" \"k009\" held by 15\n"
      ++ codes "1035 18 who 0 \"k006\" \"k006\" 15 held by 19\n1036 19 free 0 \"k006\" \"k006\" 1\n1037 19 free 0 \"k008\" \"k008\" 1\n1038 11 ask 0 \"k008\" \"k008\" granted\n"
      ++ codes "1039 11 join 0 6 5\n1040 15 ask 0 \"k006\" \"k006\" held by 18\n1041 15 who 1 \"k009\" \"k009\" 18 held by 15\n1042 15 free 1 \"k009\" \"k009\" 1\n"
      ++ codes "1043 18 ask 1 \"k009\" \"k009\" granted\n1044 1 free 0 \"k003\" \"k003\" 1\n1045 5 free 0 \"k001\" \"k001\" 1\n1046 5 free 0 \"k010\" \"k010\" 1\n"
      ++ codes "1047 5 free 1 - + 1\n1048 11 free 0 \"k008\" \"k008\" 1\n1049 18 free 0 \"k005\" \"k005\" 1\n1050 18 free 0 \"k007\" \"k007\" 0\n"
      ++ codes "1051 18 free 1 \"k009\" \"k009\" 1\ntxn 1 done\ntxn 4 deadlock 4 5 4\ntxn 5 done\ntxn 7 aborted\ntxn 11 done\ntxn 15 deadlock 15 18 15\ntxn 18 done\n"
      ++ codes "txn 19 aborted\nend 52 0\n"
  pub run_4 : ran_text (serial trace_4 274877906944) ≡
      codes "274877906944 4 ask 0 - \"d\" buffered\n274877906945 5 ask 0 \"\" \"\" held by 4\n274877906946 4 ask 0 \"\" \"\" granted\n274877906947 4 free 0 - \"d\" 1\n"
      ++ codes "274877906948 4 free 0 \"\" \"\" 0\ntxn 4 done\ntxn 5 done\nend 5 0\n"
  pub run_5 : ran_text (serial trace_5 0) ≡
      codes "0 2 ask 0 \"k000\" \"k000\" granted\n1 2 ask 0 \"k002\" \"k002\" granted\n2 9 ask 0 \"k001\" \"k001\" granted\n3 8 ask 1 \"k004\" \"k004\" granted\n"
      ++ codes "4 9 ask 0 \"k003\" \"k003\" granted\n5 17 ask 0 \"k005\" \"k005\" granted\n6 17 ask 0 \"k007\" \"k007\" granted\n7 19 ask 0 \"k006\" \"k006\" granted\n"
      ++ codes "8 18 ask 1 \"k009\" \"k009\" granted\n9 19 ask 0 \"k008\" \"k008\" granted\n10 26 ask 0 \"k010\" \"k010\" granted\n11 26 ask 0 \"k012\" \"k012\" granted\n"
      ++ codes "12 29 ask 0 \"k011\" \"k011\" granted\n13 28 ask 1 \"k014\" \"k014\" granted\n14 29 ask 0 \"k013\" \"k013\" granted\n15 8 ask 0 \"k001\" \"k001\" held by 9\n"
      ++ codes "16 2 ask 1 \"k004\" \"k004\" held by 8\n17 2 who 0 \"k001\" \"k001\" 8 held by 9\n18 1 ask 0 \"k003\" \"k003\" held by 9\n19 9 free 0 \"k001\" \"k001\" 1\n"
      ++ codes "20 9 free 0 \"k003\" \"k003\" 1\n21 1 ask 0 \"k003\" \"k003\" granted\n22 1 join 0 11 10\n23 2 ask 1 \"k004\" \"k004\" held by 8\n"
      ++ codes "24 2 who 0 \"k001\" \"k001\" 8 held by 2\n25 2 free 0 \"k000\" \"k000\" 1\n26 2 free 0 \"k002\" \"k002\" 0\n27 8 ask 0 \"k001\" \"k001\" granted\n"
      ++ codes "28 1 free 0 \"k003\" \"k003\" 1\n29 8 free 0 \"k001\" \"k001\" 1\n30 8 free 1 \"k004\" \"k004\" 1\n31 17 free 0 \"k005\" \"k005\" 1\n"
      ++ codes "32 17 free 0 \"k007\" \"k007\" 1\n33 18 free 1 \"k009\" \"k009\" 1\n34 19 free 0 \"k006\" \"k006\" 1\n35 19 free 0 \"k008\" \"k008\" 1\n"
      ++ codes "36 26 free 0 \"k010\" \"k010\" 1\n37 26 free 0 \"k012\" \"k012\" 1\n38 28 free 1 \"k014\" \"k014\" 1\n39 29 free 0 \"k011\" \"k011\" 1\n"
      ++ codes "40 29 free 0 \"k013\" \"k013\" 1\ntxn 1 done\ntxn 2 deadlock 2 8 2\ntxn 8 done\ntxn 9 done\ntxn 17 done\ntxn 18 done\ntxn 19 done\ntxn 26 done\ntxn 28 done\n"
      ++ codes "txn 29 done\nend 41 0\n"
  pub run_6 : ran_text (serial trace_6 274877906944) ≡
      codes "274877906944 4 ask 0 \"k000\" \"k000\" buffered\n274877906945 4 ask 0 \"k002\" \"k002\" buffered\n274877906946 7 ask 0 \"k001\" \"k001\" granted\n"
      ++ codes "274877906947 6 ask 0 \"k004\" \"k004\" granted\n274877906948 7 ask 0 \"k003\" \"k003\" granted\n274877906949 15 ask 0 \"k005\" \"k005\" granted\n"
      ++ codes "274877906950 15 ask 0 \"k007\" \"k007\" granted\n274877906951 18 ask 0 \"k006\" \"k006\" granted\n274877906952 16 ask 0 \"k009\" \"k009\" granted\n"
      ++ codes "274877906953 18 ask 0 \"k008\" \"k008\" granted\n274877906954 6 ask 0 \"k001\" \"k001\" held by 7\n274877906955 4 ask 0 \"k004\" \"k004\" held by 6\n"
      ++ codes "274877906956 4 who 0 \"k001\" \"k001\" 6 held by 7\n274877906957 2 ask 0 \"k003\" \"k003\" held by 7\n274877906958 16 ask 0 \"k006\" \"k006\" held by 18\n"
      ++ codes "274877906959 15 ask 0 \"k009\" \"k009\" held by 16\n274877906960 15 who 0 \"k006\" \"k006\" 16 held by 18\n274877906961 11 ask 0 \"k008\" \"k008\" held by 18\n"
      ++ codes "274877906962 7 free 0 \"k001\" \"k001\" 1\n274877906963 7 free 0 \"k003\" \"k003\" 1\n274877906964 2 ask 0 \"k003\" \"k003\" granted\n"
      ++ codes "274877906965 2 join 0 9 8\n274877906966 4 ask 0 \"k004\" \"k004\" held by 6\n274877906967 4 who 0 \"k001\" \"k001\" 6 held by 4\n274877906968 4 free 0 - + 1\n"
      ++ codes "274877906969 6 ask 0 \"k001\" \"k001\" granted\n274877906970 11 ask 0 \"k008\" \"k008\" held by 18\n274877906971 15 ask 0 \"k009\" \"k009\" held by 16\n"
      ++ codes "274877906972 15 who 0 \"k006\" \"k006\" 16 held by 18\n274877906973 16 ask 0 \"k006\" \"k006\" held by 18\n274877906974 11 ask 0 \"k008\" \"k008\" held by 18\n"
      ++ codes "274877906975 15 ask 0 \"k009\" \"k009\" held by 16\n274877906976 15 who 0 \"k006\" \"k006\" 16 held by 18\n274877906977 16 ask 0 \"k006\" \"k006\" held by 18\n"
      ++ codes "274877906978 18 free 0 \"k006\" \"k006\" 1\n274877906979 18 free 0 \"k008\" \"k008\" 1\n274877906980 11 ask 0 \"k008\" \"k008\" granted\n"
      ++ codes "274877906981 11 join 0 7 6\n274877906982 15 ask 0 \"k009\" \"k009\" held by 16\n274877906983 15 who 0 \"k006\" \"k006\" 16 held by 15\n"
      ++ codes "274877906984 15 free 0 \"k005\" \"k005\" 1\n274877906985 15 free 0 \"k007\" \"k007\" 0\n274877906986 16 ask 0 \"k006\" \"k006\" granted\n"
      ++ codes "274877906987 2 free 0 \"k003\" \"k003\" 1\n274877906988 6 free 0 \"k004\" \"k004\" 1\n274877906989 6 free 0 \"k001\" \"k001\" 1\n"
      ++ codes "274877906990 11 free 0 \"k008\" \"k008\" 1\n274877906991 16 free 0 \"k009\" \"k009\" 1\n274877906992 16 free 0 \"k006\" \"k006\" 1\ntxn 2 done\n"
      ++ codes "txn 4 deadlock 4 6 4\ntxn 6 done\ntxn 7 done\ntxn 11 done\ntxn 15 deadlock 15 16 15\ntxn 16 done\ntxn 18 done\nend 49 0\n"
  pub run_7 : ran_text (serial trace_7 0) ≡
      codes "0 3 ask 1 \"k003\" \"k003\" buffered\n1 11 ask 1 \"k011\" \"k011\" granted\n2 5 ask 1 \"k005\" \"k005\" granted\n3 1 ask 1 \"k001\" \"k001\" granted\n"
      ++ codes "4 7 ask 1 \"k007\" \"k007\" granted\n5 2 ask 0 \"k002\" \"k002\" buffered\n6 9 ask 1 \"k009\" \"k009\" granted\n7 10 ask 0 \"k010\" \"k010\" granted\n"
      ++ codes "8 4 ask 0 \"k004\" \"k004\" granted\n9 6 ask 0 \"k006\" \"k006\" granted\n10 8 ask 0 \"k008\" \"k008\" granted\n11 8 ask 1 \"k009\" \"k009\" held by 9\n"
      ++ codes "12 9 ask 0 \"k008\" \"k009\" held by 8\n13 9 who 1 \"k009\" \"k009\" 8 held by 9\n14 9 free 1 \"k009\" \"k009\" 1\n15 8 ask 1 \"k009\" \"k009\" granted\n"
      ++ codes "16 1 ask 0 \"k001\" \"k002\" held by 2\n17 2 free 0 - + 1\n18 1 ask 0 \"k001\" \"k002\" granted\n19 1 free 0 \"k001\" \"k002\" 1\n"
      ++ codes "20 1 free 1 \"k001\" \"k001\" 1\n21 3 free 1 - + 1\n22 4 free 0 \"k004\" \"k004\" 1\n23 5 free 1 \"k005\" \"k005\" 1\n24 6 free 0 \"k006\" \"k006\" 1\n"
      ++ codes "25 7 free 1 \"k007\" \"k007\" 1\n26 8 free 0 \"k008\" \"k008\" 1\n27 8 free 1 \"k009\" \"k009\" 1\n28 10 free 0 \"k010\" \"k010\" 1\n"
      ++ codes "29 11 free 1 \"k011\" \"k011\" 1\ntxn 1 done\ntxn 2 done\ntxn 3 done\ntxn 4 done\ntxn 5 done\ntxn 6 done\ntxn 7 done\ntxn 8 done\ntxn 9 deadlock 9 8 9\n"
      ++ codes "txn 10 done\ntxn 11 done\nend 30 0\n"
  pub run_8 : ran_text (serial trace_8 7) ≡
      codes "7 2 ask 0 \"k002\" \"k002\" buffered\n8 15 ask 0 \"k015\" \"k015\" granted\n9 1 ask 0 \"k001\" \"k001\" granted\n10 8 ask 0 \"k008\" \"k008\" granted\n"
      ++ codes "11 1 ask 0 \"k021\" \"k021\" granted\n12 13 ask 0 \"k013\" \"k013\" granted\n13 11 ask 0 \"k011\" \"k011\" granted\n14 7 ask 0 \"k007\" \"k007\" granted\n"
      ++ codes "15 4 ask 0 \"k004\" \"k004\" granted\n16 7 ask 0 \"k027\" \"k027\" granted\n17 1 free 0 \"k001\" \"k001\" 1\n18 1 free 0 \"k021\" \"k021\" 1\n"
      ++ codes "19 2 free 0 - + 1\n20 4 free 0 \"k004\" \"k004\" 1\n21 7 free 0 \"k007\" \"k007\" 1\n22 7 free 0 \"k027\" \"k027\" 1\n23 8 free 0 \"k008\" \"k008\" 1\n"
      ++ codes "24 11 free 0 \"k011\" \"k011\" 1\n25 13 free 0 \"k013\" \"k013\" 1\n26 15 free 0 \"k015\" \"k015\" 1\ntxn 1 done\ntxn 2 done\ntxn 4 done\ntxn 7 done\n"
      ++ codes "txn 8 done\ntxn 11 done\ntxn 13 done\ntxn 15 done\nend 20 0\n"
  pub run_9 : ran_text (serial trace_9 0) ≡
      codes "0 1 ask 0 \"k001\" \"k001\" granted\n1 2 ask 0 \"k002\" \"k002\" granted\n2 1 ask 0 \"k002\" \"k002\" held by 2\n3 2 ask 0 \"k001\" \"k002\" held by 1\n"
      ++ codes "4 2 who 0 \"k002\" \"k002\" 1 held by 2\n5 2 free 0 \"k002\" \"k002\" 1\n6 1 ask 0 \"k002\" \"k002\" granted\n7 1 ask 0 \"k001\" \"k002\" granted\n"
      ++ codes "8 1 ask 0 \"k038\" \"k038\" granted\n9 1 free 0 \"k001\" \"k001\" 1\n10 1 free 0 \"k002\" \"k002\" 0\n11 1 free 0 \"k001\" \"k002\" 0\n"
      ++ codes "12 1 free 0 \"k038\" \"k038\" 1\ntxn 1 done\ntxn 2 deadlock 2 1 2\nend 13 0\n"
  pub run_10 : ran_text (serial trace_10 0) ≡
      codes "0 4 ask 0 \"k004\" \"k004\" granted\n1 4 ask 0 \"k024\" \"k024\" granted\n2 6 ask 0 \"k006\" \"k006\" granted\n3 1 ask 1 \"k001\" \"k001\" granted\n"
      ++ codes "4 2 ask 0 \"k002\" \"k002\" granted\n5 5 ask 1 \"k005\" \"k005\" granted\n6 3 ask 1 \"k003\" \"k003\" granted\n7 5 ask 0 \"k006\" \"k006\" held by 6\n"
      ++ codes "8 4 ask 1 \"k005\" \"k005\" held by 5\n9 4 who 0 \"k006\" \"k006\" 5 held by 6\n10 2 ask 1 \"k003\" \"k003\" held by 3\n"
      ++ codes "11 6 ask 1 \"k001\" \"k006\" held by 1 3 5\n12 6 who 0 \"k006\" \"k006\" 5 held by 6\n13 6 free 0 \"k006\" \"k006\" 1\n14 2 ask 1 \"k003\" \"k003\" held by 3\n"
      ++ codes "15 4 ask 1 \"k005\" \"k005\" held by 5\n16 4 who 0 \"k006\" \"k006\" 5 held by none\n17 5 ask 0 \"k006\" \"k006\" granted\n"
      ++ codes "18 1 ask 0 \"k002\" \"k002\" held by 2\n19 1 who 1 \"k003\" \"k003\" 2 held by 3\n20 3 ask 0 \"k004\" \"k004\" held by 4\n"
      ++ codes "21 3 who 1 \"k005\" \"k005\" 4 held by 5\n22 5 free 0 \"k006\" \"k006\" 1\n23 5 free 1 \"k005\" \"k005\" 1\n24 1 ask 0 \"k002\" \"k002\" held by 2\n"
      ++ codes "25 1 who 1 \"k003\" \"k003\" 2 held by 3\n26 1 who 0 \"k004\" \"k004\" 3 held by 4\n27 1 who 1 \"k005\" \"k005\" 4 held by none\n"
      ++ codes "28 2 ask 1 \"k003\" \"k003\" held by 3\n29 2 who 0 \"k004\" \"k004\" 3 held by 4\n30 2 who 1 \"k005\" \"k005\" 4 held by none\n"
      ++ codes "31 3 ask 0 \"k004\" \"k004\" held by 4\n32 3 who 1 \"k005\" \"k005\" 4 held by none\n33 4 ask 1 \"k005\" \"k005\" granted\n"
      ++ codes "34 4 ask 1 \"k003\" \"k004\" held by 3\n35 4 who 0 \"k004\" \"k004\" 3 held by 4\n36 4 free 0 \"k004\" \"k004\" 1\n37 4 free 0 \"k024\" \"k024\" 1\n"
      ++ codes "38 4 free 1 \"k005\" \"k005\" 1\n39 1 ask 0 \"k002\" \"k002\" held by 2\n40 1 who 1 \"k003\" \"k003\" 2 held by 3\n41 1 who 0 \"k004\" \"k004\" 3 held by none\n"
      ++ codes "42 2 ask 1 \"k003\" \"k003\" held by 3\n43 2 who 0 \"k004\" \"k004\" 3 held by none\n44 3 ask 0 \"k004\" \"k004\" granted\n45 3 free 0 \"k004\" \"k004\" 1\n"
      ++ codes "46 3 free 1 \"k003\" \"k003\" 1\n47 1 ask 0 \"k002\" \"k002\" held by 2\n48 1 who 1 \"k003\" \"k003\" 2 held by none\n49 2 ask 1 \"k003\" \"k003\" granted\n"
      ++ codes "50 2 free 0 \"k002\" \"k002\" 1\n51 2 free 1 \"k003\" \"k003\" 1\n52 1 ask 0 \"k002\" \"k002\" granted\n53 1 free 0 \"k002\" \"k002\" 1\n"
      ++ codes "54 1 free 1 \"k001\" \"k001\" 1\ntxn 1 done\ntxn 2 done\ntxn 3 done\ntxn 4 deadlock 4 3 4\ntxn 5 done\ntxn 6 deadlock 6 5 6\nend 55 0\n"
  pub run_11 : ran_text (serial trace_11 7) ≡
      codes "7 3 ask 0 \"k000\" \"k000\" buffered\n8 2 ask 0 \"k002\" \"k002\" granted\n9 2 ask 0 \"k000\" \"k000\" held by 3\n10 1 ask 0 \"k001\" \"k001\" granted\n"
      ++ codes "11 1 ask 0 \"k000\" \"k001\" held by 3\n12 4 ask 0 \"k004\" \"k004\" granted\n13 4 ask 0 \"k000\" \"k000\" held by 3\n14 3 free 0 - + 1\n"
      ++ codes "15 1 ask 0 \"k000\" \"k001\" granted\n16 1 ask 0 \"k004\" \"k004\" held by 4\n17 1 who 0 \"k000\" \"k000\" 4 held by 1\n18 1 free 0 \"k001\" \"k001\" 1\n"
      ++ codes "19 1 free 0 \"k000\" \"k001\" 0\n20 2 ask 0 \"k000\" \"k000\" granted\n21 2 ask 0 \"k003\" \"k003\" granted\n22 2 free 0 \"k002\" \"k002\" 1\n"
      ++ codes "23 2 free 0 \"k000\" \"k000\" 1\n24 2 free 0 \"k003\" \"k003\" 1\n25 4 ask 0 \"k000\" \"k000\" granted\n26 4 ask 0 \"k002\" \"k002\" granted\n"
      ++ codes "27 4 ask 0 \"k000\" \"k000\" granted\n28 4 free 0 \"k004\" \"k004\" 1\n29 4 free 0 \"k000\" \"k000\" 1\n30 4 free 0 \"k002\" \"k002\" 1\n"
      ++ codes "31 4 free 0 \"k000\" \"k000\" 0\ntxn 1 deadlock 1 4 1\ntxn 2 done\ntxn 3 done\ntxn 4 done\nend 25 0\n"
  pub run_12 : ran_text (serial trace_12 274877906944) ≡
      codes "274877906944 6 ask 0 \"k006\" \"k006\" granted\n274877906945 1 ask 1 \"k001\" \"k001\" granted\n274877906946 2 ask 0 \"k002\" \"k002\" granted\n"
      ++ codes "274877906947 4 ask 0 \"k004\" \"k004\" granted\n274877906948 3 ask 1 \"k003\" \"k003\" granted\n274877906949 5 ask 1 \"k005\" \"k005\" granted\n"
      ++ codes "274877906950 4 ask 0 \"k024\" \"k024\" granted\n274877906951 1 ask 0 \"k002\" \"k002\" held by 2\n274877906952 2 ask 0 \"k002\" \"k004\" held by 4\n"
      ++ codes "274877906953 3 ask 0 \"k004\" \"k004\" held by 4\n274877906954 6 ask 0 \"k002\" \"k002\" held by 2\n274877906955 6 who 0 \"k002\" \"k004\" 2 held by 4\n"
      ++ codes "274877906956 4 ask 1 \"k001\" \"k001\" held by 1\n274877906957 4 who 0 \"k002\" \"k002\" 1 held by 2\n274877906958 4 who 0 \"k002\" \"k004\" 2 held by 4\n"
      ++ codes "274877906959 4 free 0 \"k004\" \"k004\" 1\n274877906960 4 free 0 \"k024\" \"k024\" 1\n274877906961 1 ask 0 \"k002\" \"k002\" held by 2\n"
      ++ codes "274877906962 1 who 0 \"k002\" \"k004\" 2 held by none\n274877906963 2 ask 0 \"k002\" \"k004\" granted\n274877906964 3 ask 0 \"k004\" \"k004\" held by 2\n"
      ++ codes "274877906965 6 ask 0 \"k002\" \"k002\" held by 2\n274877906966 2 ask 1 \"k003\" \"k003\" held by 3\n274877906967 2 who 0 \"k004\" \"k004\" 3 held by 2\n"
      ++ codes "274877906968 2 free 0 \"k002\" \"k002\" 1\n274877906969 2 free 0 \"k002\" \"k004\" 0\n274877906970 1 ask 0 \"k002\" \"k002\" granted\n"
      ++ codes "274877906971 3 ask 0 \"k004\" \"k004\" granted\n274877906972 6 ask 0 \"k002\" \"k002\" held by 1\n274877906973 5 ask 1 \"k003\" \"k003\" held by 3\n"
      ++ codes "274877906974 1 ask 0 \"k027\" \"k027\" granted\n274877906975 1 free 0 \"k002\" \"k002\" 1\n274877906976 1 free 0 \"k027\" \"k027\" 1\n"
      ++ codes "274877906977 1 free 1 \"k001\" \"k001\" 1\n274877906978 5 ask 1 \"k003\" \"k003\" held by 3\n274877906979 6 ask 0 \"k002\" \"k002\" granted\n"
      ++ codes "274877906980 3 free 0 \"k004\" \"k004\" 1\n274877906981 3 free 1 \"k003\" \"k003\" 1\n274877906982 5 ask 1 \"k003\" \"k003\" granted\n"
      ++ codes "274877906983 5 ask 0 \"k019\" \"k019\" granted\n274877906984 5 free 0 \"k019\" \"k019\" 1\n274877906985 5 free 1 \"k005\" \"k005\" 1\n"
      ++ codes "274877906986 5 free 1 \"k003\" \"k003\" 1\n274877906987 6 free 0 \"k006\" \"k006\" 1\n274877906988 6 free 0 \"k002\" \"k002\" 1\ntxn 1 aborted\n"
      ++ codes "txn 2 deadlock 2 3 2\ntxn 3 done\ntxn 4 deadlock 4 1 2 4\ntxn 5 done\ntxn 6 done\nend 45 0\n"
  pub run_13 : ran_text (serial trace_13 274877906944) ≡
      codes "274877906944 4 ask 0 \"c\" \"c\" buffered\n274877906945 3 ask 0 \"c\" \"c\" held by 4\n274877906946 1 ask 0 \"b\" \"b\" granted\n"
      ++ codes "274877906947 3 ask 0 \"d\" \"d\" granted\n274877906948 2 ask 0 \"\" \"\" granted\n274877906949 1 free 0 \"b\" \"b\" 1\n274877906950 3 free 0 \"d\" \"d\" 1\n"
      ++ codes "274877906951 4 ask 0 + + granted\n274877906952 2 free 0 \"\" \"\" 1\n274877906953 4 free 0 \"c\" \"c\" 1\n274877906954 4 free 0 + + 1\ntxn 1 done\ntxn 2 done\n"
      ++ codes "txn 3 done\ntxn 4 done\nend 11 0\n"

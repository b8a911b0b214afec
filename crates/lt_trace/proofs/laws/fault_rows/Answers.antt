use Rattle.std.proofs.Common.{◌≡◌, ℕ, List, [], ◌∷◌, ◌++◌, ◌<◌, codes, decimal, get_or, sym, ap, ◌∙◌, refl, lit<, lit≤, arith, Some, None}
use Rattle.std.specs.Fmt.{digits}
use Rattle.std.proofs.lemmas.List.Elements.{All-from_recursion}
use Rattle.lt_ranges.specs.Key.{key_le}
use Rattle.lt_ranges.specs.Short.{letters}
use Rattle.lt_ranges.specs.declared.key.Key.TheVariants.{Bytes}
use Rattle.lt_trace.specs.declared.line.Line.{Line}
use Rattle.lt_trace.specs.declared.line.LineDeed.{LineDeed}
use Rattle.lt_trace.specs.declared.line.LineDeed.TheVariants.{Try, Lock, End, Abort, Escalate, Big}
use Rattle.lt_trace.specs.Grammar.{Front, IsFront, IsKeyForm, IsDeedForm, deed_text, Forms}
use Rattle.lt_trace.proofs.CutLaws.{lacks_by_test}
use Rattle.lt_trace.proofs.FormLaws.{number_once, deed_ahead}
use Rattle.lt_trace.proofs.laws.fault_rows.Goals as goal

header : List Line → Front
header lines = record { header = 1 ∷ 1 ∷ 64 ∷ 0 ∷ []; lines = lines }

one_byte : (b : ℕ) → b < 256 → IsKeyForm 1 (Bytes (b ∷ []))
one_byte b h = (tt, All-from_recursion (λ x. x < 256) (b ∷ []) (h, tt))

ended : Line
ended = record { txn = 1; number = 5; deed = End }

aborted : Line
aborted = record { txn = 1; number = 5; deed = Abort }

tried : ℕ → ℕ → ℕ → Line
tried tree a b = record { txn = 1; number = 5; deed = Try tree (letters a b) }

locked : ℕ → ℕ → Line
locked a b = record { txn = 1; number = 6; deed = Lock 0 (letters a b) }

joined : ℕ → Line
joined tree = record { txn = 1; number = 5; deed = Escalate tree }

-- no deed of version 1 is spelled so
not_big : (deed : LineDeed) → IsDeedForm 1 deed → codes " big" ≡ deed_text deed → ⊥
not_big Big form is = omega arith
not_big deed form is = omega (arith, ap (λ text. get_or text 1 0) is)

no_big : Forms 1 (codes "1 big") None
no_big line form is =
    let ahead = deed_ahead line.deed in
    let spaced = is ∙ ap (λ xs. decimal line.txn ++ xs) ahead.1 in
    let once = number_once line.txn (codes "1") (codes "big") ahead.0 form.most (lacks_by_test 32 (codes "1") refl) spaced in
    not_big line.deed form.deed (ap (λ xs. 32 ∷ xs) once.1 ∙ sym ahead.1)

is_header : IsFront (header [])
unfolding header
is_header = record { header = (lit≤ tt, lit≤ tt, (lit≤ tt, lit≤ tt, (lit≤ tt, lit≤ tt, (lit≤ tt, lit≤ tt, tt)))); body = tt }

pub returns : goal.returns
unfolding key_le digits header ended aborted tried locked joined
returns c = record {
  backwards = (
    header [],
    codes "1 try 0 \"b\" \"a\"\n",
    is_header,
    refl,
    (Some (tried 0 98 97), (record { least = lit≤ tt; most = lit< tt; deed = (lit< tt, (one_byte 98 (lit< tt), one_byte 97 (lit< tt))) }, refl), refl),
  );
  outside = (
    header [],
    codes "1 try 1 \"a\" \"a\"\n",
    is_header,
    refl,
    (Some (tried 1 97 97), (record { least = lit≤ tt; most = lit< tt; deed = (lit< tt, (one_byte 97 (lit< tt), one_byte 97 (lit< tt))) }, refl), refl),
  );
  outside_join = (
    header [],
    codes "1 escalate 1\n",
    is_header,
    refl,
    (Some (joined 1), (record { least = lit≤ tt; most = lit< tt; deed = lit< tt }, refl), refl),
  );
  after_end = (
    header (ended ∷ []),
    codes "1 end\n",
    record { header = is_header.header; body = (refl, (record { form = record { least = lit≤ tt; most = lit< tt; deed = tt }; number = refl; text = refl; says = refl }, tt)) },
    refl,
    (Some ended, (record { least = lit≤ tt; most = lit< tt; deed = tt }, refl), refl),
  );
  after_abort = (
    header (aborted ∷ []),
    codes "1 lock 0 \"a\" \"a\"\n",
    record { header = is_header.header; body = (refl, (record { form = record { least = lit≤ tt; most = lit< tt; deed = tt }; number = refl; text = refl; says = refl }, tt)) },
    refl,
    (Some (locked 97 97), (record { least = lit≤ tt; most = lit< tt; deed = (lit< tt, (one_byte 97 (lit< tt), one_byte 97 (lit< tt))) }, refl), refl),
  );
  big_in_version_1 = (header [], codes "1 big\n", is_header, refl, (None, no_big, refl));
  no_newline = (header [], codes "1 end", is_header, refl, refl);
  empty = (record { header = []; lines = [] }, [], record { header = tt; body = tt }, refl, refl);
  cut = (record { header = 1 ∷ []; lines = [] }, [], record { header = (lit≤ tt, lit≤ tt, tt); body = tt }, refl, refl);
}

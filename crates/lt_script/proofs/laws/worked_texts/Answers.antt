use Rattle.std.proofs.Common.{◌≡◌, ℕ, List, [], ◌∷◌, ◌++◌, ◌<◌, ◌≤◌, ◌^◌, codes, decimal, get_or, sym, ap, ◌∙◌, refl, lit<, lit≤, arith, Some, None}
use Rattle.std.specs.Fmt.{digits}
use Rattle.std.proofs.lemmas.List.Elements.{All-from_recursion}
use Rattle.lt_ranges.specs.declared.key.Key.TheVariants.{Below, Bytes, After, Above}
use Rattle.lt_ranges.specs.Key.{key_le}
use Rattle.lt_ranges.specs.Interval.{whole}
use Rattle.lt_ranges.specs.KeyText.{IsOfBytes}
use Rattle.lt_ranges.specs.Short.{letters}
use Rattle.lt_trace.proofs.CutLaws.{lacks_by_test}
use Rattle.lt_trace.proofs.FormLaws.{number_once}
use Rattle.lt_store.specs.declared.op.Op.{Op}
use Rattle.lt_store.specs.declared.op.Op.TheVariants.{Get, Put, Scan, Commit, Abort}
use Rattle.lt_store.specs.declared.op.Move.{Move}
use Rattle.lt_script.specs.Grammar.{Front, IsFront, IsOpForm, IsForm, op_text, Forms}
use Rattle.lt_script.specs.WorkedTexts.{letter_a}
use Rattle.lt_script.proofs.FormLaws.{op_ahead}
use Rattle.lt_script.proofs.laws.worked_texts.Goals as goal

header : List Move → Front
header moves = record { header = 1 ∷ 64 ∷ []; moves = moves }

one_byte : (b : ℕ) → b < 256 → IsOfBytes (Bytes (b ∷ []))
one_byte b h = All-from_recursion (λ x. x < 256) (b ∷ []) (h, tt)

no_bytes : IsOfBytes Below
no_bytes = All-from_recursion (λ x. x < 256) [] tt

moved : ℕ → Op → Move
moved txn op = record { txn = txn; op = op }

form : (txn : ℕ) (op : Op) → 1 ≤ txn → txn < 10 ^ 9 → IsOpForm op → IsForm (moved txn op)
unfolding moved
form txn op least most is = record { least = least; most = most; op = is }

fifth : {xs ys : List ℕ} → xs ≡ ys → get_or xs 5 0 ≡ get_or ys 5 0
fifth e = ap (λ text. get_or text 5 0) e

second : {xs ys : List ℕ} → xs ≡ ys → get_or xs 1 0 ≡ get_or ys 1 0
second e = ap (λ text. get_or text 1 0) e

-- no operation is spelled so
not_get : (op : Op) → IsOpForm op → codes " get -" ≡ op_text op → ⊥
not_get (Get Below) quoted is = quoted
not_get (Get (Bytes bytes)) quoted is = omega (arith, fifth is)
not_get (Get (After bytes)) quoted is = quoted
not_get (Get Above) quoted is = quoted
not_get (Put key value) quoted is = omega (arith, second is)
not_get (Scan range) quoted is = omega (arith, second is)
not_get Commit quoted is = omega (arith, second is)
not_get Abort quoted is = omega (arith, second is)

no_get : Forms (codes "1 get -") None
no_get m is_form is =
    let ahead = op_ahead m.op in
    let spaced = is ∙ ap (λ xs. decimal m.txn ++ xs) ahead.1 in
    let once = number_once m.txn (codes "1") (codes "get -") ahead.0 is_form.most (lacks_by_test 32 (codes "1") refl) spaced in
    not_get m.op is_form.op (ap (λ xs. 32 ∷ xs) once.1 ∙ sym ahead.1)

is_header : IsFront (header [])
unfolding header
is_header = record { header = (lit≤ tt, lit≤ tt, (lit≤ tt, lit≤ tt, tt)); body = tt }

pub returns : goal.returns
unfolding key_le digits header moved
returns c =
    let a = one_byte 97 (lit< tt) in
    record {
      spelled = (
        record {
          header = is_header.header;
          body = (
            refl,
            (
              record { form = form 1 (Put letter_a 5) (lit≤ tt) (lit< tt) (a, lit< tt); text = refl; says = refl },
              (
                record { form = form 1 (Scan whole) (lit≤ tt) (lit< tt) ((tt, no_bytes), (tt, no_bytes)); text = refl; says = refl },
                (
                  record { form = form 2 (Get letter_a) (lit≤ tt) (lit< tt) a; text = refl; says = refl },
                  (
                    record { form = form 1 Commit (lit≤ tt) (lit< tt) tt; text = refl; says = refl },
                    (record { form = form 2 Abort (lit≤ tt) (lit< tt) tt; text = refl; says = refl }, tt),
                  ),
                ),
              ),
            ),
          );
        },
        refl,
      );
      backwards = (
        header [],
        codes "1 scan \"b\" \"a\"\n",
        is_header,
        refl,
        (
          Some (moved 1 (Scan (letters 98 97))),
          (form 1 (Scan (letters 98 97)) (lit≤ tt) (lit< tt) ((tt, one_byte 98 (lit< tt)), (tt, a)), refl),
          refl,
        ),
      );
      after_commit = (
        header (moved 1 Commit ∷ []),
        codes "1 commit\n",
        record {
          header = is_header.header;
          body =
              (refl, (record { form = form 1 Commit (lit≤ tt) (lit< tt) tt; text = refl; says = refl }, tt));
        },
        refl,
        (Some (moved 1 Commit), (form 1 Commit (lit≤ tt) (lit< tt) tt, refl), refl),
      );
      after_abort = (
        header (moved 1 Abort ∷ []),
        codes "1 get \"a\"\n",
        record {
          header = is_header.header;
          body =
              (refl, (record { form = form 1 Abort (lit≤ tt) (lit< tt) tt; text = refl; says = refl }, tt));
        },
        refl,
        (Some (moved 1 (Get letter_a)), (form 1 (Get letter_a) (lit≤ tt) (lit< tt) a, refl), refl),
      );
      unquoted = (header [], codes "1 get -\n", is_header, refl, (None, no_get, refl));
      no_newline = (header [], codes "1 commit", is_header, refl, refl);
      empty = (record { header = []; moves = [] }, [], record { header = tt; body = tt }, refl, refl);
      cut = (record { header = 1 ∷ []; moves = [] }, [], record { header = (lit≤ tt, lit≤ tt, tt); body = tt }, refl, refl);
      of_a_trace = (
        record { header = []; moves = [] },
        codes "rangelock 1\ntrees 1\n",
        record { header = tt; body = tt },
        refl,
        ((λ n least most is. omega (arith, fifth is)), refl),
      );
    }

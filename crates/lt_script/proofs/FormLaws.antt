-- A text has one form of a move at the most.
use Rattle.std.proofs.Common.{◌≡◌, ℕ, ◌^◌, ◌<◌, List, [], ◌∷◌, ◌++◌, get_or, codes, decimal, sym, ap, ◌∙◌, refl, lit<, arith, append_assoc}
use Rattle.std.proofs.lemmas.Fmt.{decimal_injective}
use Rattle.std.proofs.lemmas.List.{append_cancel_left}
use Rattle.lt_ranges.specs.declared.key.Key.{Key}
use Rattle.lt_ranges.specs.declared.key.Key.TheVariants.{Below, Bytes, After, Above}
use Rattle.lt_ranges.specs.Interval.{Interval}
use Rattle.lt_ranges.specs.Short.{between}
use Rattle.lt_ranges.specs.KeyText.{IsOfBytes, key_text, spaced, range_text}
use Rattle.lt_ranges.proofs.KeyTextLaws.{text_once}
use Rattle.lt_trace.specs.Cut.{Lacks}
use Rattle.lt_trace.specs.Grammar.{IsRangeForm}
use Rattle.lt_trace.proofs.CutLaws.{lacks_append, lacks_by_test}
use Rattle.lt_trace.proofs.TextLaws.{decimal_lacks}
use Rattle.lt_trace.proofs.KeyWordLaws.{key_cut, key_lacks}
use Rattle.lt_trace.proofs.FormLaws.{number_once}
use Rattle.lt_store.specs.declared.op.Op.{Op}
use Rattle.lt_store.specs.declared.op.Op.TheVariants.{Get, Put, Scan, Commit, Abort}
use Rattle.lt_store.specs.declared.op.Move.{Move}
use Rattle.lt_script.specs.Grammar.{op_text, move_text, IsQuoted, IsOpForm, IsForm}

-- each operation has a space behind its transaction
pub op_ahead : (op : Op) → (rest : List ℕ) × (op_text op ≡ 32 ∷ rest)
op_ahead (Get key) = (_, refl)
op_ahead (Put key value) = (_, refl)
op_ahead (Scan range) = (_, refl)
op_ahead Commit = (_, refl)
op_ahead Abort = (_, refl)

pub quoted_bytes : (key : Key) → IsQuoted key → IsOfBytes key
quoted_bytes Below quoted = absurd quoted
quoted_bytes (Bytes bytes) quoted = quoted
quoted_bytes (After bytes) quoted = absurd quoted
quoted_bytes Above quoted = absurd quoted

tail : {a b : ℕ} {xs ys : List ℕ} → a ∷ xs ≡ b ∷ ys → xs ≡ ys
tail e = cc

-- the letter by which two operations differ
second : {xs ys : List ℕ} → xs ≡ ys → get_or xs 1 0 ≡ get_or ys 1 0
second e = ap (λ text. get_or text 1 0) e

spaced_lacks : (n : ℕ) → n < 10 ^ 9 → Lacks 10 (spaced n)
spaced_lacks n small =
    lacks_append 10 (codes " ") (decimal n) (lacks_by_test 10 (codes " ") refl) (decimal_lacks 10 n (omega arith) (lit< tt))

range_lacks : (range : Interval) → Lacks 10 (range_text range)
range_lacks range =
    let space = lacks_by_test 10 (codes " ") refl in
    let left = lacks_append 10 (codes " ") (key_text range.left) space (key_lacks range.left) in
    let between = lacks_append 10 (codes " " ++ key_text range.left) (codes " ") left space in
    lacks_append 10 (codes " " ++ key_text range.left ++ codes " ") (key_text range.right) between (key_lacks range.right)

-- no newline stands behind a transaction
op_lacks : (op : Op) → IsOpForm op → Lacks 10 (op_text op)
op_lacks (Get key) form = lacks_append 10 (codes " get ") (key_text key) (lacks_by_test 10 (codes " get ") refl) (key_lacks key)
op_lacks (Put key value) form =
    let named = lacks_append 10 (codes " put ") (key_text key) (lacks_by_test 10 (codes " put ") refl) (key_lacks key) in
    lacks_append 10 (codes " put " ++ key_text key) (spaced value) named (spaced_lacks value form.1)
op_lacks (Scan range) form = lacks_append 10 (codes " scan") (range_text range) (lacks_by_test 10 (codes " scan") refl) (range_lacks range)
op_lacks Commit form = lacks_by_test 10 (codes " commit") refl
op_lacks Abort form = lacks_by_test 10 (codes " abort") refl

-- two keys of one text are the same
key_once : (a b : Key) → IsQuoted a → IsQuoted b → key_text a ≡ key_text b → a ≡ b
key_once a b one other e = text_once a b (quoted_bytes a one) (quoted_bytes b other) e

-- and so are two ranges
range_once : (a b : Interval) → IsRangeForm 1 a → IsRangeForm 1 b → range_text a ≡ range_text b → a ≡ b
range_once a b one other e =
    let both : key_text a.left ++ 32 ∷ key_text a.right ≡ key_text b.left ++ 32 ∷ key_text b.right =
    sym (append_assoc (key_text a.left) (32 ∷ []) (key_text a.right)) ∙ tail e
    ∙ append_assoc (key_text b.left) (32 ∷ []) (key_text b.right) in
    let cut = key_cut a.left b.left (key_text a.right) (key_text b.right) both in
    let left = text_once a.left b.left one.0.1 other.0.1 cut.0 in
    let right = text_once a.right b.right one.1.1 other.1.1 cut.1 in
    ap (λ k. between k a.right) left ∙ ap (λ k. between b.left k) right

-- and two operations
op_once : (d e : Op) → IsOpForm d → IsOpForm e → op_text d ≡ op_text e → d ≡ e
op_once (Get a) (Get b) one other is =
    ap (λ key. Get key) (key_once a b one other (append_cancel_left (codes " get ") (key_text a) (key_text b) is))
op_once (Get a) e one other is = absurd (omega (arith, second is))
op_once (Put a v) (Put b w) one other is =
    let cut = key_cut a b (decimal v) (decimal w) (append_cancel_left (codes " put ") _ _ is) in
    let small = one.1 in
    let other_small = other.1 in
    ap (λ key. Put key v) (key_once a b one.0 other.0 cut.0) ∙ ap (λ n. Put b n) (decimal_injective v w (omega arith) (omega arith) cut.1)
op_once (Put a v) e one other is = absurd (omega (arith, second is))
op_once (Scan a) (Scan b) one other is =
    ap (λ range. Scan range) (range_once a b one other (append_cancel_left (codes " scan") (range_text a) (range_text b) is))
op_once (Scan a) e one other is = absurd (omega (arith, second is))
op_once Commit Commit one other is = refl
op_once Commit e one other is = absurd (omega (arith, second is))
op_once Abort Abort one other is = refl
op_once Abort e one other is = absurd (omega (arith, second is))

-- two moves of one text are of one transaction, and ask for the same
pub move_once : (k l : Move) → IsForm k → IsForm l → move_text k ≡ move_text l → (k.txn ≡ l.txn) × (k.op ≡ l.op)
move_once k l one other is =
    let first = op_ahead k.op in
    let second = op_ahead l.op in
    let spaced : decimal k.txn ++ 32 ∷ first.0 ≡ decimal l.txn ++ 32 ∷ second.0 = sym (ap (λ text. decimal k.txn ++ text) first.1) ∙ is
    ∙ ap (λ text. decimal l.txn ++ text) second.1 in
    let small : k.txn < 2 ^ 64 = let h = one.most in omega arith in
    let cut = number_once l.txn (decimal k.txn) first.0 second.0 other.most (decimal_lacks 32 k.txn small (lit< tt)) spaced in (
      decimal_injective k.txn l.txn small (let h = other.most in omega arith) cut.0,
      op_once k.op l.op one.op other.op (first.1 ∙ ap (λ text. 32 ∷ text) cut.1 ∙ sym second.1),
    )

abbrev made : ℕ → Op → Move
made txn op = record { txn = txn; op = op }

pub same_move : (k l : Move) → IsForm k → IsForm l → move_text k ≡ move_text l → k ≡ l
same_move k l one other is =
    let once = move_once k l one other is in
    ap (λ n. made n k.op) once.0 ∙ ap (λ op. made l.txn op) once.1

-- no newline stands in a move's text
pub move_lacks : (m : Move) → IsForm m → Lacks 10 (move_text m)
move_lacks m form =
    lacks_append 10 (decimal m.txn) (op_text m.op) (decimal_lacks 10 m.txn (let h = form.most in omega arith) (lit< tt))
    (op_lacks m.op form.op)

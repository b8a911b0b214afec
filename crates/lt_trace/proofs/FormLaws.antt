-- A text has one form of a line at the most.
use Rattle.std.proofs.Common.{◌≡◌, ℕ, ◌^◌, ◌<◌, List, [], ◌∷◌, ◌++◌, get_or, codes, decimal, sym, ap, subst, ◌∙◌, refl, lit<, arith, append_assoc}
use Rattle.std.proofs.lemmas.Fmt.{decimal_injective}
use Rattle.std.proofs.lemmas.List.{append_cancel_left}
use Rattle.lt_ranges.specs.Interval.{Interval}
use Rattle.lt_ranges.specs.Short.{between}
use Rattle.lt_ranges.specs.KeyText.{key_text, range_text}
use Rattle.lt_ranges.proofs.KeyTextLaws.{text_once}
use Rattle.lt_trace.specs.declared.line.Line.{Line}
use Rattle.lt_trace.specs.declared.line.LineDeed.{LineDeed}
use Rattle.lt_trace.specs.declared.line.LineDeed.TheVariants.{Try, Lock, End, Abort, Escalate, Big}
use Rattle.lt_trace.specs.Cut.{Lacks}
use Rattle.lt_trace.specs.Grammar.{IsRangeForm, IsTreeForm, IsDeedForm, deed_text, IsForm, line_text}
use Rattle.lt_trace.proofs.CutLaws.{lacks_append, lacks_not, lacks_by_test, cut_once}
use Rattle.lt_trace.proofs.TextLaws.{decimal_lacks}
use Rattle.lt_trace.proofs.KeyWordLaws.{key_cut, key_lacks}

-- what stands before the first space is a number, if a number stands there
pub number_once : (n : ℕ) (digits rest tail : List ℕ) → n < 10 ^ 9 → Lacks 32 digits → digits ++ 32 ∷ rest ≡ decimal n ++ 32 ∷ tail → (digits ≡ decimal n) × (rest ≡ tail)
number_once n digits rest tail small lacks e =
    cut_once 32 digits (decimal n) rest tail lacks (decimal_lacks 32 n (omega arith) (lit< tt)) e

-- and then a space comes
pub number_ends : (n : ℕ) (text tail : List ℕ) → Lacks 32 text → text ≡ decimal n ++ 32 ∷ tail → ⊥
number_ends n text tail lacks e = lacks_not 32 (decimal n) tail (subst (Lacks 32) e lacks)

-- each deed has a space behind its transaction
pub deed_ahead : (deed : LineDeed) → (rest : List ℕ) × (deed_text deed ≡ 32 ∷ rest)
deed_ahead (Try tree range) = (_, refl)
deed_ahead (Lock tree range) = (_, refl)
deed_ahead End = (_, refl)
deed_ahead Abort = (_, refl)
deed_ahead (Escalate tree) = (_, refl)
deed_ahead Big = (_, refl)

tail : {a b : ℕ} {xs ys : List ℕ} → a ∷ xs ≡ b ∷ ys → xs ≡ ys
tail e = cc

-- the letters by which two deeds differ
second : {xs ys : List ℕ} → xs ≡ ys → get_or xs 1 0 ≡ get_or ys 1 0
second e = ap (λ text. get_or text 1 0) e

third : {xs ys : List ℕ} → xs ≡ ys → get_or xs 2 0 ≡ get_or ys 2 0
third e = ap (λ text. get_or text 2 0) e

tree_lacks : (word : List ℕ) (tree : ℕ) → Lacks 10 word → IsTreeForm tree → Lacks 10 (word ++ decimal tree)
tree_lacks word tree lacks small = lacks_append 10 word (decimal tree) lacks (decimal_lacks 10 tree (omega arith) (lit< tt))

range_lacks : (range : Interval) → Lacks 10 (range_text range)
range_lacks range =
    let space = lacks_by_test 10 (codes " ") refl in
    let left = lacks_append 10 (codes " ") (key_text range.left) space (key_lacks range.left) in
    let between = lacks_append 10 (codes " " ++ key_text range.left) (codes " ") left space in
    lacks_append 10 (codes " " ++ key_text range.left ++ codes " ") (key_text range.right) between (key_lacks range.right)

-- no newline stands behind a transaction
deed_lacks : (version : ℕ) (deed : LineDeed) → IsDeedForm version deed → Lacks 10 (deed_text deed)
deed_lacks version (Try tree range) form =
    let named = tree_lacks (codes " try ") tree (lacks_by_test 10 (codes " try ") refl) form.0 in
    lacks_append 10 (codes " try " ++ decimal tree) (range_text range) named (range_lacks range)
deed_lacks version (Lock tree range) form =
    let named = tree_lacks (codes " lock ") tree (lacks_by_test 10 (codes " lock ") refl) form.0 in
    lacks_append 10 (codes " lock " ++ decimal tree) (range_text range) named (range_lacks range)
deed_lacks version End form = lacks_by_test 10 (codes " end") refl
deed_lacks version Abort form = lacks_by_test 10 (codes " abort") refl
deed_lacks version (Escalate tree) form = tree_lacks (codes " escalate ") tree (lacks_by_test 10 (codes " escalate ") refl) form
deed_lacks version Big form = lacks_by_test 10 (codes " big") refl

-- two ranges of one text are the same
range_once : (version : ℕ) (a b : Interval) → IsRangeForm version a → IsRangeForm version b → range_text a ≡ range_text b → a ≡ b
range_once version a b one other e =
    let both : key_text a.left ++ 32 ∷ key_text a.right ≡ key_text b.left ++ 32 ∷ key_text b.right =
    sym (append_assoc (key_text a.left) (32 ∷ []) (key_text a.right)) ∙ tail e ∙ append_assoc (key_text b.left) (32 ∷ []) (key_text b.right) in
    let cut = key_cut a.left b.left (key_text a.right) (key_text b.right) both in
    let left = text_once a.left b.left one.0.1 other.0.1 cut.0 in
    let right = text_once a.right b.right one.1.1 other.1.1 cut.1 in
    ap (λ k. between k a.right) left ∙ ap (λ k. between b.left k) right

-- and so are two trees, and two trees with their ranges
tree_once : (t u : ℕ) → IsTreeForm t → IsTreeForm u → decimal t ≡ decimal u → t ≡ u
tree_once t u one other is = decimal_injective t u (omega arith) (omega arith) is

ranged_once : (version t u : ℕ) (a b : Interval) → IsTreeForm t → IsTreeForm u → IsRangeForm version a → IsRangeForm version b
    → decimal t ++ range_text a ≡ decimal u ++ range_text b → (t ≡ u) × (a ≡ b)
ranged_once version t u a b small_t small_u one other is =
    let cut = number_once u (decimal t) _ _ small_u (decimal_lacks 32 t (omega arith) (lit< tt)) is in
    (tree_once t u small_t small_u cut.0, range_once version a b one other (ap (λ text. 32 ∷ text) cut.1))

-- two deeds of one text are the same
deed_once : (version : ℕ) (d e : LineDeed) → IsDeedForm version d → IsDeedForm version e → deed_text d ≡ deed_text e → d ≡ e
deed_once version (Try t a) (Try u b) one other is =
    let once = ranged_once version t u a b one.0 other.0 one.1 other.1 (append_cancel_left (codes " try ") _ _ is) in
    ap (λ n. Try n a) once.0 ∙ ap (λ range. Try u range) once.1
deed_once version (Try t a) e one other is = absurd (omega (arith, second is))
deed_once version (Lock t a) (Lock u b) one other is =
    let once = ranged_once version t u a b one.0 other.0 one.1 other.1 (append_cancel_left (codes " lock ") _ _ is) in
    ap (λ n. Lock n a) once.0 ∙ ap (λ range. Lock u range) once.1
deed_once version (Lock t a) e one other is = absurd (omega (arith, second is))
deed_once version End End one other is = refl
deed_once version End (Escalate u) one other is = absurd (omega (arith, third is))
deed_once version End e one other is = absurd (omega (arith, second is))
deed_once version Abort Abort one other is = refl
deed_once version Abort e one other is = absurd (omega (arith, second is))
deed_once version (Escalate t) (Escalate u) one other is =
    ap (λ n. Escalate n) (tree_once t u one other (append_cancel_left (codes " escalate ") (decimal t) (decimal u) is))
deed_once version (Escalate t) End one other is = absurd (omega (arith, third is))
deed_once version (Escalate t) e one other is = absurd (omega (arith, second is))
deed_once version Big Big one other is = refl
deed_once version Big e one other is = absurd (omega (arith, second is))

-- two lines of one text are of one transaction, and ask for the same
pub line_once : (version : ℕ) (k l : Line) → IsForm version k → IsForm version l → line_text k ≡ line_text l → (k.txn ≡ l.txn) × (k.deed ≡ l.deed)
line_once version k l one other is =
    let first = deed_ahead k.deed in
    let second = deed_ahead l.deed in
    let spaced : decimal k.txn ++ 32 ∷ first.0 ≡ decimal l.txn ++ 32 ∷ second.0 = sym (ap (λ text. decimal k.txn ++ text) first.1) ∙ is ∙ ap (λ text. decimal l.txn ++ text) second.1 in
    let small : k.txn < 2 ^ 64 = let h = one.most in omega arith in
    let cut = number_once l.txn (decimal k.txn) first.0 second.0 other.most (decimal_lacks 32 k.txn small (lit< tt)) spaced in (
      decimal_injective k.txn l.txn small (let h = other.most in omega arith) cut.0,
      deed_once version k.deed l.deed one.deed other.deed (first.1 ∙ ap (λ text. 32 ∷ text) cut.1 ∙ sym second.1),
    )

-- no newline stands in a line
pub line_lacks : (version : ℕ) (line : Line) → IsForm version line → Lacks 10 (line_text line)
line_lacks version line form =
    lacks_append 10 (decimal line.txn) (deed_text line.deed) (decimal_lacks 10 line.txn (let h = form.most in omega arith) (lit< tt)) (deed_lacks version line.deed form.deed)

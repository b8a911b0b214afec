-- Of two fronts of the same bytes, one goes on where the other ends.
use Rattle.std.proofs.Common.{◌≡◌, ℕ, ◌≤◌, ◌⊎◌, inl, inr, ⊎_elim, List, [], ◌∷◌, ◌++◌, length, Some, None, codes, decimal, sym, ap, subst, ◌∙◌, refl, lit<, lit≤, arith, append_assoc}
use Rattle.std.specs.List.{AllByRecursion, flat_map}
use Rattle.std.proofs.lemmas.List.{append-nil, append_cancel_left}
use Rattle.std.proofs.lemmas.Fmt.{decimal_injective}
use Rattle.lt_trace.specs.Cut.{Lacks}
use Rattle.lt_trace.specs.Grammar.{HeaderForm, header_line, header_text, AreInForm, next_form}
use Rattle.lt_trace.proofs.CutLaws.{lacks_append, lacks_by_test, cut_once}
use Rattle.lt_trace.proofs.TextLaws.{decimal_lacks}
use Rattle.lt_store.specs.declared.op.Move.{Move}
use Rattle.lt_script.specs.Grammar.{header_forms, move_text, IsFaultless, AreFaultless, IsBody, Front, IsFront, front_text}
use Rattle.lt_script.proofs.FormLaws.{same_move, move_lacks}

-- a form whose lines are short, and have no newline
pub record IsPlain (form : HeaderForm) : Type 0 where
  pub lacks : Lacks 10 form.word
  pub short : length form.word ≤ 10
  pub small : form.most ≤ 65536

pub plain_forms : AllByRecursion IsPlain header_forms
plain_forms = (
  record { lacks = lacks_by_test 10 (codes "rangestore") refl; short = lit≤ tt; small = lit≤ tt },
  (record { lacks = lacks_by_test 10 (codes "limit") refl; short = lit≤ tt; small = lit≤ tt }, tt),
)

pub header_lacks : (form : HeaderForm) (n : ℕ) → IsPlain form → n ≤ form.most → Lacks 10 (header_line form n)
header_lacks form n plain most =
    lacks_append 10 form.word (32 ∷ decimal n) plain.lacks
    ((λ is. space is), decimal_lacks 10 n (let h = plain.small in omega arith) (lit< tt))
  where
    space : ◌≡◌ {A = ℕ} 32 10 → ⊥
    space is = omega arith

tail : {a b : ℕ} {xs ys : List ℕ} → a ∷ xs ≡ b ∷ ys → xs ≡ ys
tail e = cc

header_once : (form : HeaderForm) (n m : ℕ) → IsPlain form → n ≤ form.most → m ≤ form.most → header_line form n ≡ header_line form m → n ≡ m
header_once form n m plain one other is =
    decimal_injective n m (let h = plain.small in omega arith) (let h = plain.small in omega arith)
    (tail (append_cancel_left form.word (32 ∷ decimal n) (32 ∷ decimal m) is))

-- the rest goes on with the next header line
pub record HeaderMore (forms : List HeaderForm) (ns rest : List ℕ) : Type 0 where
  pub form : HeaderForm
  pub number : ℕ
  pub behind : List ℕ
  pub next : next_form forms ns ≡ Some form
  pub least : form.least ≤ number
  pub most : number ≤ form.most
  pub begins : rest ≡ header_line form number ++ 10 ∷ behind

ended_line : (xs ys zs : List ℕ) → ((xs ++ 10 ∷ []) ++ ys) ++ zs ≡ xs ++ 10 ∷ (ys ++ zs)
ended_line xs ys zs = append_assoc (xs ++ 10 ∷ []) ys zs ∙ append_assoc xs (10 ∷ []) (ys ++ zs)

header_split : (forms : List HeaderForm) (ns ms r s : List ℕ) → AllByRecursion IsPlain forms → AreInForm forms ns → AreInForm forms ms
    → header_text forms ns ++ r ≡ header_text forms ms ++ s
    → ((ns ≡ ms) × (r ≡ s)) ⊎ (HeaderMore forms ns r ⊎ HeaderMore forms ms s)
header_split forms [] [] r s plain one other e = inl (refl, e)
header_split [] [] (m ∷ ms) r s plain one other e = absurd other
header_split [] (n ∷ ns) ms r s plain one other e = absurd one
header_split (form ∷ forms) [] (m ∷ ms) r s plain one other e =
    inr (inl (record {
      form = form;
      number = m;
      behind = header_text forms ms ++ s;
      next = refl;
      least = other.0;
      most = other.1;
      begins = e ∙ ended_line (header_line form m) (header_text forms ms) s;
    }))
header_split (form ∷ forms) (n ∷ ns) [] r s plain one other e =
    inr (inr (record {
      form = form;
      number = n;
      behind = header_text forms ns ++ r;
      next = refl;
      least = one.0;
      most = one.1;
      begins = sym e ∙ ended_line (header_line form n) (header_text forms ns) r;
    }))
header_split (form ∷ forms) (n ∷ ns) (m ∷ ms) r s plain one other e =
    let cut = cut_once 10 (header_line form n) (header_line form m) (header_text forms ns ++ r) (header_text forms ms ++ s)
    (header_lacks form n plain.0 one.1) (header_lacks form m plain.0 other.1)
    (sym (ended_line (header_line form n) (header_text forms ns) r) ∙ e ∙ ended_line (header_line form m) (header_text forms ms) s) in
    let same = header_once form n m plain.0 one.1 other.1 cut.0 in
    ⊎_elim
    (λ equal. inl (ap (λ k. k ∷ ns) same ∙ ap (λ ks. m ∷ ks) equal.0, equal.1))
    (λ more. inr (⊎_elim (λ h. inl (longer n ns r h)) (λ h. inr (longer m ms s h)) more))
    (header_split forms ns ms r s plain.1 one.2 other.2 cut.1)
  where
    longer : (k : ℕ) (ks rest : List ℕ) → HeaderMore forms ks rest → HeaderMore (form ∷ forms) (k ∷ ks) rest
    longer k ks rest h =
        record { form = h.form; number = h.number; behind = h.behind; next = h.next; least = h.least; most = h.most; begins = h.begins }

-- the rest goes on with a move without a fault
pub record MoveMore (before : List Move) (rest : List ℕ) : Type 0 where
  pub next : Move
  pub behind : List ℕ
  pub good : IsFaultless before next
  pub begins : rest ≡ move_text next ++ 10 ∷ behind

abbrev moves_text : List Move → List ℕ
moves_text moves = flat_map (λ m. move_text m ++ codes "\n") moves

moves_split : (before ks ls : List Move) (r s : List ℕ) → AreFaultless before ks → AreFaultless before ls
    → moves_text ks ++ r ≡ moves_text ls ++ s
    → ((ks ≡ ls) × (r ≡ s)) ⊎ (MoveMore (before ++ ks) r ⊎ MoveMore (before ++ ls) s)
moves_split before [] [] r s one other e = inl (refl, e)
moves_split before [] (l ∷ ls) r s one other e =
    inr (inl (record {
      next = l;
      behind = moves_text ls ++ s;
      good = subst (λ moves. IsFaultless moves l)
          (sym (append-nil before)) other.0;
      begins = e ∙ ended_line (move_text l) (moves_text ls) s;
    }))
moves_split before (k ∷ ks) [] r s one other e =
    inr (inr (record {
      next = k;
      behind = moves_text ks ++ r;
      good = subst (λ moves. IsFaultless moves k) (sym (append-nil before)) one.0;
      begins = sym e ∙ ended_line (move_text k) (moves_text ks) r;
    }))
moves_split before (k ∷ ks) (l ∷ ls) r s one other e =
    let cut = cut_once 10 (move_text k) (move_text l) (moves_text ks ++ r) (moves_text ls ++ s) (move_lacks k one.0.form)
    (move_lacks l other.0.form)
    (sym (ended_line (move_text k) (moves_text ks) r) ∙ e ∙ ended_line (move_text l) (moves_text ls) s) in
    let same = same_move k l one.0.form other.0.form cut.0 in
    let rest = subst (λ m. AreFaultless (before ++ m ∷ []) ls) (sym same) other.1 in
    ⊎_elim
    (λ equal. inl (ap (λ m. m ∷ ks) same ∙ ap (λ moves. l ∷ moves) equal.0, equal.1))
    (λ more. inr (⊎_elim (λ h. inl (longer k ks r h)) (λ h. inr (subst (λ m. MoveMore (before ++ m ∷ ls) s) same (longer k ls s h))) more))
    (moves_split (before ++ k ∷ []) ks ls r s one.1 rest cut.1)
  where
    longer : (m : Move) (moves : List Move) (rest : List ℕ) → MoveMore ((before ++ m ∷ []) ++ moves) rest
        → MoveMore (before ++ m ∷ moves) rest
    longer m moves rest h = subst (λ all. MoveMore all rest) (append_assoc before (m ∷ []) moves) h

-- the rest behind a front goes on with a line that has no fault
abbrev pub GoesOn : Front → List ℕ → Type 0
GoesOn front rest = HeaderMore header_forms front.header rest ⊎ ((next_form header_forms front.header ≡ None) × MoveMore front.moves rest)

next_none : (forms : List HeaderForm) (ns : List ℕ) → length ns ≡ length forms → next_form forms ns ≡ None
next_none [] ns is = refl
next_none (form ∷ forms) [] is = absurd (omega arith)
next_none (form ∷ forms) (n ∷ ns) is = next_none forms ns (omega arith)

-- body lines stand behind a whole header
whole_header : (header : List ℕ) (m : Move) (moves : List Move) → IsBody header (m ∷ moves) → next_form header_forms header ≡ None
whole_header header m moves body = next_none header_forms header body.0

faultless_body : (header : List ℕ) (moves : List Move) → IsBody header moves → AreFaultless [] moves
faultless_body header [] body = tt
faultless_body header (m ∷ moves) body = body.1

abbrev at : List ℕ → List Move → Front
at header moves = record { header = header; moves = moves }

by_moves : (header : List ℕ) (ks ls : List Move) (r s : List ℕ) → next_form header_forms header ≡ None
    → ((ks ≡ ls) × (r ≡ s)) ⊎ (MoveMore ks r ⊎ MoveMore ls s)
    → ((at header ks ≡ at header ls) × (r ≡ s)) ⊎ (GoesOn (at header ks) r ⊎ GoesOn (at header ls) s)
by_moves header ks ls r s none split =
    ⊎_elim
    (λ same. inl (ap (λ moves. at header moves) same.0, same.1))
    (λ more. inr (⊎_elim (λ h. inl (inr (none, h))) (λ h. inr (inr (none, h))) more))
    split

-- two fronts with one header
body_split : (header : List ℕ) (ks ls : List Move) (r s : List ℕ) → IsBody header ks → IsBody header ls
    → moves_text ks ++ r ≡ moves_text ls ++ s
    → ((at header ks ≡ at header ls) × (r ≡ s)) ⊎ (GoesOn (at header ks) r ⊎ GoesOn (at header ls) s)
body_split header [] [] r s one other e = inl (refl, e)
body_split header [] (l ∷ ls) r s one other e =
    by_moves header [] (l ∷ ls) r s (whole_header header l ls other) (moves_split [] [] (l ∷ ls) r s tt other.1 e)
body_split header (k ∷ ks) ls r s one other e =
    by_moves header (k ∷ ks) ls r s (whole_header header k ks one) (moves_split [] (k ∷ ks) ls r s one.1 (faultless_body header ls other) e)

split_whole : (f g : Front) (r s : List ℕ) → IsFront f → IsFront g → f.header ≡ g.header → moves_text f.moves ++ r ≡ moves_text g.moves ++ s
    → ((f ≡ g) × (r ≡ s)) ⊎ (GoesOn f r ⊎ GoesOn g s)
split_whole f g r s one other same e =
    subst (λ header. IsBody header g.moves → ((f ≡ at header g.moves) × (r ≡ s)) ⊎ (GoesOn f r ⊎ GoesOn (at header g.moves) s)) same
    (λ body. body_split f.header f.moves g.moves r s one.body body e) other.body

-- where header lines come next, there is no body
pub no_body : (header : List ℕ) (moves : List Move) (form : HeaderForm) → IsBody header moves → next_form header_forms header ≡ Some form
    → moves ≡ []
no_body header [] form body next = refl
no_body header (m ∷ moves) form body next = let none = whole_header header m moves body in cc

header_ahead : (front : Front) (rest : List ℕ) → IsFront front → HeaderMore header_forms front.header (moves_text front.moves ++ rest)
    → GoesOn front rest
header_ahead front rest is more =
    let none = no_body front.header front.moves more.form is.body more.next in
    inl (subst (λ moves. HeaderMore header_forms front.header (moves_text moves ++ rest)) none more)

pub front_split : (f g : Front) (r s : List ℕ) → IsFront f → IsFront g → front_text f ++ r ≡ front_text g ++ s
    → ((f ≡ g) × (r ≡ s)) ⊎ (GoesOn f r ⊎ GoesOn g s)
front_split f g r s one other e =
    ⊎_elim
    (λ same. split_whole f g r s one other same.0 same.1)
    (λ more. inr (⊎_elim (λ h. inl (header_ahead f r one h)) (λ h. inr (header_ahead g s other h)) more))
    (header_split header_forms f.header g.header (moves_text f.moves ++ r) (moves_text g.moves ++ s) plain_forms one.header other.header
    (sym (append_assoc (header_text header_forms f.header) (moves_text f.moves) r) ∙ e
    ∙ append_assoc (header_text header_forms g.header) (moves_text g.moves) s))

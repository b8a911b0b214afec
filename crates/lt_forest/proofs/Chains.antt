-- Chains of rows, and sums over the trees of a forest.
use Rattle.std.proofs.Common.{◌≡◌, ◌≢◌, ℕ, zero, suc, ◌+◌, ◌<◌, ◌≤◌, List, [], ◌∷◌, ◌++◌, refl, sym, ap, ap₂, ◌∙◌, subst, arith}
use mathlib.Core.Logic.{dite}
use native.Mathlib.Decide.{ℕ_discrete}
use Rattle.lt_seq.specs.declared.event.Pair.{Pair}
use Rattle.lt_seq.specs.Pairs.{granted}
use Rattle.lt_forest.specs.Counts.{total}
use Rattle.lt_forest.specs.Trees.{Node, Nodes}
use Rattle.lt_forest.specs.Forest.{IsChain, IsRun, folded, AllOf}
use Rattle.lt_forest.proofs.SameRows.{AgreeOn, on_right, on_here}

-- sums

pub total_has : (f : ℕ → ℕ) (n i : ℕ) → i < n → f i ≤ total f n
total_has f zero i lt = absurd (omega (arith, lt))
total_has f (suc n) i lt = dite (ℕ_discrete i n)
    (λ e. let s = ap f e in omega arith)
    (λ ne. let r = total_has f n i (omega arith) in omega arith)

pub total_two : (f : ℕ → ℕ) (n i j : ℕ) → i ≢ j → i < n → j < n → f i + f j ≤ total f n
total_two f zero i j ne lt lt' = absurd (omega (arith, lt))
total_two f (suc n) i j ne lt lt' = dite (ℕ_discrete i n)
    (λ e. let s = ap f e in let r = total_has f n j (omega arith) in omega arith)
    (λ i_else. dite (ℕ_discrete j n)
    (λ e. let s = ap f e in let r = total_has f n i (omega arith) in omega arith)
    (λ j_else. let r = total_two f n i j ne (omega arith) (omega arith) in omega arith))

pub total_same : (f g : ℕ → ℕ) (n : ℕ) → ((j : ℕ) → j < n → f j ≡ g j) → total f n ≡ total g n
total_same f g zero same = refl
total_same f g (suc n) same =
    let a = total_same f g n (λ j lt. same j (omega arith)) in let b = same n (omega arith) in omega arith

pub total_change : (f g : ℕ → ℕ) (n i : ℕ) → i < n → ((j : ℕ) → j ≢ i → f j ≡ g j) → total g n + f i ≡ total f n + g i
total_change f g zero i lt same = absurd (omega (arith, lt))
total_change f g (suc n) i lt same = dite (ℕ_discrete i n)
    (λ e. let a = ap f e in let b = ap g e in let r = total_same f g n (λ j l. same j (λ z. omega arith)) in omega arith)
    (λ ne. let r = total_change f g n i (omega arith) same in let s = same n (λ z. ne (sym z)) in omega arith)

pub total_some : (f : ℕ → ℕ) (n : ℕ) → 0 < total f n → (i : ℕ) × (i < n) × (0 < f i)
total_some f zero some = absurd (omega (arith, some))
total_some f (suc n) some = dite (ℕ_discrete (f n) 0)
    (λ e. let r = total_some f n (omega arith) in (r.0, (let l = r.1 in omega arith), r.2))
    (λ ne. (n, omega arith, omega arith))

-- chains

-- a link leads to one chain
pub chain_one : (c : Nodes) (link : ℕ) (xs ys : List ℕ) → IsChain c link xs → IsChain c link ys → xs ≡ ys
chain_one c link [] [] a b = refl
chain_one c link [] (y ∷ ys) a b = absurd (let z : link ≡ 0 = a in let e = b.0 in omega arith)
chain_one c link (x ∷ xs) [] a b = absurd (let z : link ≡ 0 = b in let e = a.0 in omega arith)
chain_one c link (x ∷ xs) (y ∷ ys) a b =
    let same : x ≡ y = (let e = a.0 in let g = b.0 in omega arith) in
    ap₂ (λ (n : ℕ) (l : List ℕ). n ∷ l) same
    (chain_one c (c x).left xs ys a.1 (subst (λ (n : ℕ). IsChain c (c n).left ys) (sym same) b.1))

-- the chain from a link on, and the run with which it begins
pub record BeginsWith (c : Nodes) (chain run : List ℕ) (last : ℕ) : Type 0 where
  pub rest : List ℕ
  pub is : chain ≡ run ++ rest
  pub on : IsChain c last rest

pub cut_chain : (c : Nodes) (link : ℕ) (run chain : List ℕ) (last : ℕ) → IsChain c link chain → IsRun c link run last
    → BeginsWith c chain run last
cut_chain c link [] chain last leads runs =
    record { rest = chain; is = refl; on = subst (λ (l : ℕ). IsChain c l chain) runs leads }
cut_chain c link (r ∷ run) [] last leads runs = absurd (let z : link ≡ 0 = leads in let e = runs.0 in omega arith)
cut_chain c link (r ∷ run) (q ∷ chain) last leads runs =
    let same : q ≡ r = (let a = leads.0 in let b = runs.0 in omega arith) in
    let k = cut_chain c (c q).left run chain last leads.1 (subst (λ (n : ℕ). IsRun c (c n).left run last) (sym same) runs.1) in
    record { rest = k.rest; is = ap₂ (λ (n : ℕ) (l : List ℕ). n ∷ l) same k.is; on = k.on }

pub join_chain : (d : Nodes) (link : ℕ) (run rest : List ℕ) (last : ℕ) → IsRun d link run last → IsChain d last rest
    → IsChain d link (run ++ rest)
join_chain d link [] rest last runs leads = subst (λ (l : ℕ). IsChain d l rest) (sym runs) leads
join_chain d link (r ∷ run) rest last runs leads = (runs.0, join_chain d (d r).left run rest last runs.1 leads)

-- what rows that hold the same leave

pub on_chain : (c d : Nodes) (link : ℕ) (rows : List ℕ) → AgreeOn c d rows → IsChain c link rows → IsChain d link rows
on_chain c d link [] same leads = leads
on_chain c d link (r ∷ rows) same leads = (
  leads.0,
  subst (λ (n : Node). IsChain d n.left rows) (on_here c d r rows same)
      (on_chain c d (c r).left rows (on_right c d (r ∷ []) rows same) leads.1),
)

pub on_run : (c d : Nodes) (link : ℕ) (rows : List ℕ) (last : ℕ) → AgreeOn c d rows → IsRun c link rows last → IsRun d link rows last
on_run c d link [] last same runs = runs
on_run c d link (r ∷ rows) last same runs = (
  runs.0,
  subst (λ (n : Node). IsRun d n.left rows last) (on_here c d r rows same)
      (on_run c d (c r).left rows last (on_right c d (r ∷ []) rows same) runs.1),
)

pub on_owner : (c d : Nodes) (txn : ℕ) (rows : List ℕ) → AgreeOn c d rows → AllOf txn c rows → AllOf txn d rows
on_owner c d txn [] same all = tt
on_owner c d txn (r ∷ rows) same all =
    (ap (λ (n : Node). n.owner) (sym (on_here c d r rows same)) ∙ all.0, on_owner c d txn rows (on_right c d (r ∷ []) rows same) all.1)

pub on_folded : (c d : Nodes) (txn : ℕ) (rows : List ℕ) → AgreeOn c d rows → folded txn c rows ≡ folded txn d rows
on_folded c d txn [] same = refl
on_folded c d txn (r ∷ rows) same =
    ap₂ (λ (n : Node) (l : List Pair). granted txn n.range l)
    (on_here c d r rows same) (on_folded c d txn rows (on_right c d (r ∷ []) rows same))

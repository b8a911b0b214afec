-- A buffer's chain given up whole.
use Rattle.std.proofs.Common.{◌≡◌, ℕ, zero, suc, ◌-◌, ◌<◌, ◌≤◌, List, [], ◌∷◌, ◌++◌, length, take, get_or, refl, sym, ap, ◌∙◌, subst, arith}
use Rattle.std.proofs.lemmas.List.{take_all}
use Rattle.std.specs.Prelude.{Option}
use Rattle.lt_rows.specs.declared.row_plan.RowPlan.{RowPlan}
use Rattle.lt_seq.specs.declared.event.Mode.TheVariants.{Buffer}
use Rattle.lt_seq.specs.declared.event.Mode.{Mode}
use Rattle.lt_seq.specs.declared.event.Pair.{Pair}
use Rattle.lt_seq.specs.declared.event.Event.{Event}
use Rattle.lt_seq.specs.declared.event.Deed.TheVariants.{Free}
use Rattle.lt_seq.specs.History.{after}
use Rattle.lt_rows.specs.Plan.{setting_of}
use Rattle.lt_seq.specs.Sound.{IsSized}
use Rattle.lt_seq.specs.Table.{tree_at}
use Rattle.lt_seq.proofs.LawfulLaws.{lawful_history}
use Rattle.lt_forest.specs.Counts.{times}
use Rattle.lt_forest.specs.Forest.{IsChain, IsRun, folded}
use Rattle.lt_forest.specs.Views.{IsIn}
use Rattle.lt_forest.proofs.SameRows.{one_here, times-++, AgreeOn, on_here, on_right}
use Rattle.lt_forest.specs.Trees.{Node}
use Rattle.lt_forest.proofs.Chains.{on_chain, on_folded}
use Rattle.lt_forest.proofs.PublicLaws.{read_run_is_further}
use Rattle.lt_rows.specs.declared.view.View.{View}
use Rattle.lt_rows.specs.declared.view.Row.{Row}
use Rattle.lt_rows.specs.Nodes.{node_of, mode_of, nodes, modes}
use Rattle.lt_rows.specs.Views.{row_at, rows_of, words_of, images, image_of, has}
use Rattle.lt_rows.specs.Lawful.{shown}
use Rattle.lt_rows.specs.Teaching.{Teaches}
use Rattle.lt_rows.proofs.Planned.{view_is}
use Rattle.lt_rows.proofs.LessonLaws.{whole_chain_shows_buffer, anchor_shows_mode}
use Rattle.lt_tree.specs.States.{HasWords, KeepsRows}
use Rattle.lt_tree.specs.Puttings.{Backs}
use Rattle.lt_chain.specs.declared.images.Images.{Images}
use Rattle.lt_chain.specs.Images.{HasImages}
use Rattle.lt_chain.specs.Chains.{ShowsChain, HoldsChain, FreesAll}
use Rattle.lt_chain.proofs.HoldingLaws.{one_else, backs_held, backs_has, backs_order}
use Rattle.lt_chain.proofs.PairLaws.{at_stands, last_of}
use Rattle.lt_chain.proofs.ReadLaws.{all_held}

-- rows from the last on

pub last_first : (v : View) (rows : List ℕ) (n : ℕ) → 0 < n → n ≤ length rows → Backs v (take n rows) → Backs v (get_or rows (n - 1) 0 ∷ take (n - 1) rows)
last_first v rows n more le b =
    let r : ℕ = get_or rows (n - 1) 0 in
    backs_order v (take (n - 1) rows ++ get_or rows (n - 1) 0 ∷ []) (get_or rows (n - 1) 0 ∷ take (n - 1) rows)
    (λ q. (let t = times-++ q (take (n - 1) rows) (get_or rows (n - 1) 0 ∷ []) in omega arith))
    (subst (λ (l : List ℕ). Backs v l) (last_of rows n more le) b)

pub none_taken : (v : View) (rows : List ℕ) (n : ℕ) → n ≤ 0 → Backs v (take n rows) → Backs v []
none_taken v rows n le b = subst (λ (m : ℕ). Backs v (take m rows)) (let e : n ≡ 0 = omega arith in e) b

pub split_last : (rows : List ℕ) → 0 < length rows → rows ≡ take (length rows - 1) rows ++ get_or rows (length rows - 1) 0 ∷ []
split_last rows some = sym (take_all (length rows) rows (omega arith)) ∙ last_of rows (length rows) some (omega arith)

-- the chain has rows, and they are further ones
pub record Ended (k : RowPlan) (rows : List ℕ) : Type 0 where
  pub some : 0 < length rows
  pub further : (q : ℕ) → 0 < times q rows → k.trees < q

chain_run : (link : ℕ) (v : View) (rows : List ℕ) → IsChain (shown v []) link rows → IsRun (shown v []) link rows 0
chain_run link v [] e = e
chain_run link v (r ∷ rows) e = (e.0, chain_run (shown v [] r).left v rows e.1)

sized_some : (buffer : ℕ) (pairs : List Pair) (mode : Mode) (owner count : ℕ) → mode ≡ Buffer owner count → IsSized buffer pairs mode → 0 < count
sized_some buffer pairs mode owner count e s =
    let t = subst (IsSized buffer pairs) e s in let a = t.some in let b = t.fewer in omega arith

pub ended_here : (v : View) (tree : ℕ) (rows : List ℕ) → tree < v.plan.trees → HoldsChain v tree rows → Teaches v → Ended v.plan rows
ended_here v tree rows lt h t =
    let owner : ℕ = h.shows.buffer.0 in
    let count : ℕ = h.shows.buffer.1 in
    let held = all_held v (tree ∷ rows) h.backs in
    let shows = whole_chain_shows_buffer v t.0 tree owner count rows t.2 held lt h.shows.buffer.2 h.shows.chain in
    let anchor_in : IsIn (has v) tree = held tree (let o = one_here tree in omega arith) in
    let true_mode : mode_of (images v tree) ≡ (tree_at (after (setting_of v.plan) t.0) tree).mode = anchor_shows_mode v t.0 tree t.2 lt anchor_in in
    let lawful = lawful_history (setting_of v.plan) t.0 t.2.shape.legal in
    let counted : count ≡ length rows = shows.2 in
    let more = sized_some v.plan.buffer (tree_at (after (setting_of v.plan) t.0) tree).pairs (tree_at (after (setting_of v.plan) t.0) tree).mode owner count (sym true_mode ∙ h.shows.buffer.2) (lawful.sized tree) in
    record {
      some = omega arith;
      further = λ q some. (read_run_is_further (has v) (shown v []) v.plan.trees (rows_of v.plan) (nodes t.2.contents) (modes t.2.contents) (after (setting_of v.plan) t.0) t.2.forest
          tree owner count 0 q rows t.2.shape.forest (view_is v [] t.2.contents t.2.agrees).before held lt
          (t.2.shape.forest.modes tree lt ∙ (sym true_mode ∙ h.shows.buffer.2)) (chain_run (shown v [] tree).left v rows h.shows.chain) some).0;
    }

pub chain_ended : (k : RowPlan) (v : View) (tree : ℕ) (rows : List ℕ) → v.plan ≡ k → tree < k.trees → HoldsChain v tree rows → Teaches v → Ended k rows
chain_ended k v tree rows is lt h t = subst (λ (p : RowPlan). Ended p rows) is (ended_here v tree rows (subst (λ (p : RowPlan). tree < p.trees) (sym is) lt) h t)

pub pool_out : (k : RowPlan) (tree : ℕ) (rows : List ℕ) → tree < k.trees → Ended k rows → times k.trees (tree ∷ rows) ≡ 0
pool_out k tree rows lt far = by_count (times k.trees rows) refl
  where
    by_count : (n : ℕ) → times k.trees rows ≡ n → times k.trees (tree ∷ rows) ≡ 0
    by_count zero e = let z = one_else k.trees tree (λ s. omega arith) in omega arith
    by_count (suc n) e = absurd (let f = far.further k.trees (omega arith) in omega arith)

-- what was loaded at the chain's two ends
pub ends_held : (k : RowPlan) (v : View) (tree : ℕ) (rows : List ℕ) (i : Images) → tree < k.trees → Ended k rows → Backs v (k.trees ∷ tree ∷ rows)
    → i.anchor.row ≡ tree → i.pool.row ≡ k.trees → i.row.row ≡ get_or rows (length rows - 1) 0
    → i.anchor.words ≡ words_of (row_at v tree) → i.pool.words ≡ words_of (row_at v k.trees) → i.row.words ≡ words_of (row_at v (get_or rows (length rows - 1) 0))
    → HasImages k v tree i
ends_held k v tree rows i lt far b anchor_row pool_row row_is anchor_words pool_words row_words =
    let a = one_here tree in let p = one_here k.trees in
    let some = far.some in
    let s = at_stands rows (length rows - 1) (omega arith) in
    record {
      anchor = subst (λ (n : ℕ). HasWords v n i.anchor.words) (sym anchor_row) (backs_has v (k.trees ∷ tree ∷ rows) b tree (omega arith) i.anchor.words anchor_words);
      pool = subst (λ (n : ℕ). HasWords v n i.pool.words) (sym pool_row) (backs_has v (k.trees ∷ tree ∷ rows) b k.trees (omega arith) i.pool.words pool_words);
      row = subst (λ (n : ℕ). HasWords v n i.row.words) (sym row_is) (backs_has v (k.trees ∷ tree ∷ rows) b (get_or rows (length rows - 1) 0) (omega arith) i.row.words row_words);
      anchor_row = anchor_row;
      pool_row = pool_row;
      further = subst (λ (n : ℕ). k.trees < n) (sym row_is) (far.further (get_or rows (length rows - 1) 0) s);
    }

-- the same for the pass as it was lent

agree_on : (v w : View) (tree : ℕ) (rows : List ℕ) → Backs v (tree ∷ rows) → KeepsRows v w → AgreeOn (shown v []) (shown w []) (tree ∷ rows)
agree_on v w tree rows b keeps q some = ap (λ (x : Option Row). node_of (image_of x)) (sym (keeps q (backs_held v (tree ∷ rows) b q some)))

pub shows_on : (v w : View) (tree : ℕ) (rows : List ℕ) → Backs v (tree ∷ rows) → KeepsRows v w → ShowsChain v tree rows → ShowsChain w tree rows
shows_on v w tree rows b keeps s =
    let agree = agree_on v w tree rows b keeps in
    let anchor = keeps tree (backs_held v (tree ∷ rows) b tree (let o = one_here tree in omega arith)) in
    record {
      buffer = (s.buffer.0, s.buffer.1, ap (λ (x : Option Row). mode_of (image_of x)) anchor ∙ s.buffer.2);
      chain = subst (λ (n : Node). IsChain (shown w []) n.left rows) (on_here (shown v []) (shown w []) tree rows agree)
          (on_chain (shown v []) (shown w []) (shown v [] tree).left rows (on_right (shown v []) (shown w []) (tree ∷ []) rows agree) s.chain);
    }

pub frees_on : (pass pass' tree : ℕ) (v w : View) (rows : List ℕ) (e : Event) → pass' ≡ pass → Backs v (tree ∷ rows) → KeepsRows v w → FreesAll pass tree v rows e
    → FreesAll pass' tree w rows e
frees_on pass pass' tree v w rows e same b keeps f =
    let agree = agree_on v w tree rows b keeps in
    let owner : (shown v [] tree).owner ≡ (shown w [] tree).owner = ap (λ (n : Node). n.owner) (on_here (shown v []) (shown w []) tree rows agree) in
    let pairs : folded (shown v [] tree).owner (shown v []) rows ≡ folded (shown w [] tree).owner (shown w []) rows =
    on_folded (shown v []) (shown w []) (shown v [] tree).owner rows (on_right (shown v []) (shown w []) (tree ∷ []) rows agree) ∙ ap (λ (o : ℕ). folded o (shown w []) rows) owner in
    record {
      range = f.range;
      first = f.first;
      pass_is = f.pass_is ∙ sym same;
      owner = f.owner ∙ owner;
      question = f.question;
      whole = f.whole;
      deed = f.deed ∙ ap (λ (l : List Pair). Free tree f.range f.first (length l)) pairs;
    }

-- The commit that gives a whole chain to the pool, and what is held behind it.
use Rattle.std.proofs.Common.{◌≡◌, ◌≢◌, ℕ, ℤ, ◌+◌, ◌-◌, ◌<◌, List, [], ◌∷◌, ◌++◌, length, take, refl, sym, ap, ◌∙◌, subst, arith}
use Rattle.std.specs.Prelude.{Option, Some, None, nat_eq, pos, ◌+ℤ◌}
use Rattle.lt_rows.specs.declared.row_plan.RowPlan.{RowPlan}
use Rattle.lt_seq.specs.declared.event.Event.{Event}
use Rattle.lt_seq.specs.declared.event.Deed.TheVariants.{Free}
use Rattle.lt_seq.specs.declared.event.Mode.TheVariants.{Tree as TreeMode, Buffer}
use Rattle.lt_seq.specs.Table.{tree_of}
use Rattle.lt_forest.specs.Counts.{one_if, times}
use Rattle.lt_forest.specs.Forest.{IsChain, folded}
use Rattle.lt_forest.proofs.SameRows.{one_equal, times-++}
use Rattle.lt_rows.specs.declared.view.View.{View}
use Rattle.lt_rows.specs.declared.view.Row.{Row}
use Rattle.lt_rows.specs.Nodes.{mode_of}
use Rattle.lt_rows.specs.Views.{Holds, IsHeld, row_at, images, image_of, committed, planned_rows}
use Rattle.lt_rows.specs.Lawful.{shown, How, drops_buffer, IsCommit}
use Rattle.lt_rows.proofs.FirstAsk.{mode_tree}
use Rattle.lt_rows.proofs.Frames.{Some-is, Some-none}
use Rattle.lt_rows.proofs.Planned.{planned_else}
use Rattle.lt_rows.proofs.Views.{committed_at}
use Rattle.lt_rows.proofs.Wide.{still_none}
use Rattle.lt_tree.specs.Puttings.{Backs}
use Rattle.lt_chain.specs.declared.images.Images.{Images}
use Rattle.lt_chain.specs.Images.{HasImages, EndsWith, DropsChain, IsGone}
use Rattle.lt_chain.specs.Chains.{ShowsChain, FreesAll}
use Rattle.lt_chain.proofs.HoldingLaws.{one_else}
use Rattle.lt_chain.proofs.ImageLaws.{after_anchor, anchor_link, pool_link, anchor_link_after, pool_link_after, row_link_after, only_these}
use Rattle.lt_chain.proofs.ReadLaws.{owned, all_held}

ne_of : (q r : ℕ) → one_if (nat_eq r q) ≡ 0 → q ≢ r
ne_of q r z e = let o = one_equal q r e in omega arith

module _ (k : RowPlan) (v : View) (tree : ℕ) (rows : List ℕ) (i n : Images) (lt : tree < k.trees) (h : HasImages k v tree i)
    (b : Backs v (k.trees ∷ tree ∷ rows)) (ends : EndsWith rows i) (d : DropsChain i n) where
  abbrev front : List ℕ
  front = take (length rows - 1) rows

  counts : (q : ℕ) → times q rows ≡ times q (take (length rows - 1) rows) + one_if (nat_eq i.row.row q)
  counts q = let t = times-++ q (take (length rows - 1) rows) (i.row.row ∷ []) in let s : times q rows ≡ times q (take (length rows - 1) rows ++ i.row.row ∷ []) = ap (λ (l : List ℕ). times q l) ends in omega arith

  module _ (pass : ℕ) (e : Event) (shows : ShowsChain v tree rows) (frees : FreesAll pass tree v rows e) where
    owner_is : shows.buffer.0 ≡ e.txn
    owner_is = sym (frees.owner ∙ owned (images v tree) shows.buffer.0 shows.buffer.1 shows.buffer.2)

    how : How k v e (n.anchor ∷ n.pool ∷ n.row ∷ [])
    how = drops_buffer record {
      tree = tree;
      count = shows.buffer.1;
      range = frees.range;
      first = frees.first;
      front = take (length rows - 1) rows;
      last = i.row.row;
      deed = frees.deed ∙ (λ j. Free tree frees.range frees.first (length (folded (sym frees.owner j) (shown v []) (ends j))));
      question = frees.question;
      whole = frees.whole;
      drops = record {
        drops = record {
          was = shows.buffer.2 ∙ ap (λ (o : ℕ). Buffer o shows.buffer.1) owner_is;
          now = ap mode_of (after_anchor k v tree i n lt h d.anchor_row d.pool_row d.row_is) ∙ (mode_tree n.anchor.words d.no_owner ∙ ap TreeMode d.score);
          shows = subst (IsChain (shown v []) (shown v [] tree).left) ends shows.chain;
          top = anchor_link_after k v tree i n lt h d.anchor_row d.pool_row d.row_is ∙ d.no_top;
          pool_link = pool_link_after k v tree i n lt h d.anchor_row d.pool_row d.row_is
              ∙ (d.pool_link ∙ sym (anchor_link k v tree i n lt h d.anchor_row d.pool_row d.row_is));
          joint = row_link_after k v tree i n lt h d.anchor_row d.pool_row d.row_is
              ∙ (d.joint ∙ sym (pool_link k v tree i n lt h d.anchor_row d.pool_row d.row_is));
        };
        chain_held = λ q some. all_held v (k.trees ∷ tree ∷ rows) b q
            (let s : times q rows ≡ times q (take (length rows - 1) rows ++ i.row.row ∷ []) = ap (λ (l : List ℕ). times q l) ends in omega arith);
        only = only_these k v tree i n lt h d.anchor_row d.pool_row d.row_is;
      };
    }

    pub drops_commit : (change : ℤ) → change +ℤ pos (length rows) ≡ pos 0 → pass + 1 ≡ v.mark → IsCommit k v e (n.anchor ∷ n.pool ∷ n.row ∷ []) change
    unfolding how
    drops_commit change change_is mark = record {
      pass = ap (λ (x : ℕ). x + 1) frees.pass_is ∙ mark;
      tree = subst (λ (x : ℕ). x < k.trees) (sym (ap tree_of frees.deed)) lt;
      how = how;
      change_is = ap (λ (l : List ℕ). change +ℤ pos (length l)) (sym ends) ∙ change_is;
      licence = λ less. absurd (omega arith);
    }

  -- behind the commit and with the three given back
  module _ (u w : View) (log : List Event) (made : u ≡ committed v (n.anchor ∷ n.pool ∷ n.row ∷ []) log) (gone : IsGone w n)
      (others : (r : ℕ) → r ≢ n.anchor.row → r ≢ n.pool.row → r ≢ n.row.row → row_at w r ≡ row_at u r) where
    record Apart (q : ℕ) : Type 0 where
      pub anchor : q ≢ n.anchor.row
      pub pool : q ≢ n.pool.row
      pub row : q ≢ n.row.row

    not_planned : (q : ℕ) → Apart q → times q (planned_rows (n.anchor ∷ n.pool ∷ n.row ∷ [])) ≡ 0
    not_planned q a =
        let x = one_else q n.anchor.row a.anchor in let y = one_else q n.pool.row a.pool in let z = one_else q n.row.row a.row in omega arith

    -- such a row is held as before
    kept_row : (q : ℕ) → Apart q → IsHeld v q → (new : Row) × Holds w q new × (new.words ≡ new.image)
    kept_row q a y =
        let c = committed_at v (n.anchor ∷ n.pool ∷ n.row ∷ []) log q y.0 y.1 in (
          c.0,
          others q a.anchor a.pool a.row ∙ (ap (λ (x : View). row_at x q) made ∙ c.1),
          c.2 ∙ (b.keeps.gathers q y.0 y.1 ∙ (ap image_of (sym y.1) ∙ sym (c.3 ∙ planned_else (images v) (n.anchor ∷ n.pool ∷ n.row ∷ []) q (not_planned q a)))),
        )

    apart_of : (q : ℕ) → IsHeld w q → Apart q
    apart_of q y = record {
      anchor = λ e. Some-none y.0 (sym (ap (row_at w) e ∙ gone.0) ∙ y.1);
      pool = λ e. Some-none y.0 (sym (ap (row_at w) e ∙ gone.1) ∙ y.1);
      row = λ e. Some-none y.0 (sym (ap (row_at w) e ∙ gone.2) ∙ y.1);
    }

    held_before : (q : ℕ) → IsHeld w q → IsHeld v q
    held_before q y = by_row (row_at v q) refl
      where
        by_row : (x : Option Row) → row_at v q ≡ x → IsHeld v q
        by_row (Some row) e = (row, e)
        by_row None e =
            let a = apart_of q y in
            absurd (Some-none y.0 (sym (others q a.anchor a.pool a.row ∙ (ap (λ (x : View). row_at x q) made ∙ still_none v (n.anchor ∷ n.pool ∷ n.row ∷ []) [] q e)) ∙ y.1))

    front_apart : (q : ℕ) → 0 < times q (take (length rows - 1) rows) → Apart q
    front_apart q some =
        let o = b.keeps.once q in
        let c = counts q in
        let x : one_if (nat_eq i.row.row q) ≡ 0 = omega arith in
        let y : one_if (nat_eq tree q) ≡ 0 = omega arith in
        let z : one_if (nat_eq k.trees q) ≡ 0 = omega arith in
        record {
          anchor = λ e. ne_of q tree y (e ∙ (d.anchor_row ∙ h.anchor_row));
          pool = λ e. ne_of q k.trees z (e ∙ (d.pool_row ∙ h.pool_row));
          row = λ e. ne_of q i.row.row x (e ∙ d.row_is);
        }

    pub front_backs : Backs w (take (length rows - 1) rows)
    front_backs = record {
      keeps = record {
        held = λ q some. (let r = kept_row q (front_apart q some) (b.keeps.held q (let c = counts q in omega arith)) in (r.0, r.1));
        once = λ q. (let o = b.keeps.once q in let c = counts q in omega arith);
        gathers = λ q row y.
            let r = kept_row q (apart_of q (row, y)) (held_before q (row, y)) in
            let same : r.0 ≡ row = Some-is r.0 row (sym r.1 ∙ y) in
            subst (λ (x : Row). x.words ≡ x.image) same r.2;
      };
      held_all = λ q y.
          let a = apart_of q y in
          let more = b.held_all q (held_before q y) in
          let c = counts q in
          let x = one_else q i.row.row (λ e. a.row (e ∙ sym d.row_is)) in
          let s = one_else q tree (λ e. a.anchor (e ∙ sym (d.anchor_row ∙ h.anchor_row))) in
          let z = one_else q k.trees (λ e. a.pool (e ∙ sym (d.pool_row ∙ h.pool_row))) in
          omega arith;
    }

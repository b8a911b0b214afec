-- Buffers: one begins, gets rows, ends as a tree or is dropped whole, and stays where its owner asks who holds.
use Rattle.std.proofs.Common.{◌≡◌, ℕ, ◌+◌, ◌<◌, List, [], ◌∷◌, ◌++◌, map, length, length-append, Bool, true, ◌&&◌, ◌==◌, nat_lt, if◌then◌else◌, set, refl, sym, ap, ap₂, ◌∙◌, subst, arith, eq-eqb}
use Rattle.std.proofs.lemmas.List.{set-get_or}
use Rattle.std.proofs.lemmas.Bool.Decides.{nat_tests}
use Rattle.std.specs.List.{filter}
use Rattle.lt_ranges.specs.Interval.{Interval}
use Rattle.lt_ranges.specs.Numbers.{ascending}
use Rattle.lt_seq.specs.declared.event.Pair.{Pair}
use Rattle.lt_seq.specs.declared.event.Mode.{Mode}
use Rattle.lt_seq.specs.declared.event.Mode.TheVariants.{Tree as TreeMode, Buffer}
use Rattle.lt_seq.specs.declared.event.Reply.TheVariants.{Buffered}
use Rattle.lt_seq.specs.declared.event.Deed.{Deed}
use Rattle.lt_seq.specs.declared.event.Deed.TheVariants.{Ask, Free, Who}
use Rattle.lt_seq.specs.Pairs.{granted, freed, count_freed, others, is_others}
use Rattle.lt_seq.specs.Sound.{AllOwn, IsOwned, AllSound}
use Rattle.lt_seq.specs.Table.{Setting, TreeState, fresh, tree_at, tree_after, replied, tree_of, is_buffered, is_whole, pairs_by, reply_by, raised, mode_asked}
use Rattle.lt_forest.specs.Counts.{times}
use Rattle.lt_forest.specs.Bounds.{Gap}
use Rattle.lt_forest.specs.Trees.{Tree, leaf, node, Nodes, LeadsTo, in_order, pairs_in}
use Rattle.lt_forest.specs.Cuts.{Cut, end, bare}
use Rattle.lt_forest.specs.Forest.{NoRow, Forest, Growth, search_tree, chain, rows_at, IsTree, IsChain, IsRun, folded, AllOf, Represents, IsForest, GapIn, ChangesOnly, KeepsModes, Becomes}
use Rattle.lt_forest.specs.Plans.{after_deed, IsReplied, MovesPool}
use Rattle.lt_forest.specs.Buffers.{whole_free, PutsFirst, Begins, Appends, buffered_state, Ends, Drops}
use Rattle.lt_forest.proofs.SameRows.{times-++, AgreeOn, on_left, on_right}
use Rattle.lt_forest.proofs.Growing.{AllGrow, fill_leads}
use Rattle.lt_forest.proofs.Chains.{total_has, chain_one, BeginsWith, cut_chain, join_chain, on_chain, on_run, on_owner, on_folded}
use Rattle.lt_forest.proofs.StateLaws.{used_moves}
use Rattle.lt_forest.proofs.ForestLaws.{TreeAt, as_tree, tree_represents, ChainAt, as_chain, one_place, changes_else, Moves, off, Regrows, regrown, regrown_forest, others_placed}

-- no row of the tree has a gap
abbrev NoGaps : Nodes → Growth → Type 0
NoGaps c g = (q : ℕ) (gap : Gap) → GapIn c g q gap → ⊥

chain_gapless : (c : Nodes) (g : Growth) (rows : List ℕ) → g ≡ chain rows → NoGaps c g
chain_gapless c g rows is q gap h = subst (λ (x : Growth). GapIn c x q gap) is h

module _ {trees rows t : ℕ} {c d : Nodes} {mode mode' : ℕ → Mode} {state : List TreeState} {f : Forest} {after : TreeState}
    {moved : List ℕ}
    {growth : Growth} {pool : List ℕ} (forest : IsForest trees rows c mode state f)
    (grows : Regrows trees t c d mode mode' f after moved growth pool) (gapless : NoGaps c (f.tree t)) where
  becomes : (gone come : ℕ) → length pool + come ≡ length f.pool + gone
      → Becomes trees rows c d mode mode' state (set state t after) f NoRow gone come
  becomes gone come pools = record {
    next = regrown f t growth pool;
    forest = regrown_forest forest grows;
    others = λ s q g score out seen. others_placed forest grows s q g score (λ e has. absurd (gapless q g has)) seen;
    used_rows = used_moves gone come forest (regrown_forest forest grows) pools;
  }

-- a row put first

-- what the growth is, as the chain of a buffer of so many rows
record IsBuffer (c : Nodes) (link : ℕ) (g : Growth) (pairs : List Pair) (txn count : ℕ) (rs : List ℕ) : Type 0 where
  pub rows_are : rows_at g ≡ rs
  pub leads : IsChain c link rs
  pub owned : AllOf txn c rs
  pub pairs_are : folded txn c rs ≡ pairs
  pub count_is : count ≡ length rs
  pub gapless : NoGaps c g

module _ {trees rows t q txn count : ℕ} {range : Interval} {c d : Nodes} {mode mode' : ℕ → Mode} {state : List TreeState}
    {f : Forest} {rs : List ℕ}
    (forest : IsForest trees rows c mode state f) (tree : t < trees)
    (buffer : IsBuffer c (c t).left (f.tree t) (tree_at state t).pairs txn count rs)
    (puts : PutsFirst trees t q txn range c d) (now : mode' t ≡ Buffer txn (count + 1))
    (only : ChangesOnly (t ∷ trees ∷ q ∷ []) c d) (other_modes : KeepsModes trees t mode mode') where
  rest : BeginsWith c f.pool (q ∷ []) (c q).left
  rest = cut_chain c (c trees).left (q ∷ []) f.pool (c q).left forest.vacant (puts.first_vacant, refl)

  in_pool : (r : ℕ) → times r f.pool ≡ times r (q ∷ []) + times r rest.rest
  in_pool r = ap (times r) rest.is ∙ times-++ r (q ∷ []) rest.rest

  moves : Moves trees t c d f (q ∷ [])
  moves = record { tree = tree; only = only; stand = λ r. let k = in_pool r in omega arith }

  staying : AgreeOn c d (rs ++ rest.rest)
  staying r some =
      let m = one_place forest t tree r in
      let k = in_pool r in
      let l = ap (times r) buffer.rows_are in
      let z = times-++ r rs rest.rest in
      off forest moves r (omega arith) (omega arith)

  abbrev grant : TreeState
  grant = record { pairs = granted txn range (tree_at state t).pairs; mode = Buffer txn (count + 1) }

  grown : Represents d (d t).left (chain (q ∷ rs)) (granted txn range (tree_at state t).pairs) (Buffer txn (count + 1))
  grown =
      let chain_stays = on_left c d rs rest.rest staying in (
        (puts.top, subst (λ (l : ℕ). IsChain d l rs) (sym puts.next) (on_chain c d (c t).left rs chain_stays buffer.leads)),
        (puts.owner, on_owner c d txn rs chain_stays buffer.owned),
        ap₂ (granted txn) puts.range_is (sym (on_folded c d txn rs chain_stays) ∙ buffer.pairs_are),
        (let e = buffer.count_is in omega arith),
      )

  grows : Regrows trees t c d mode mode' f grant (q ∷ []) (chain (q ∷ rs)) rest.rest
  grows = record {
    moves = moves;
    other_modes = other_modes;
    mode_is = now;
    grown = subst (Represents d (d t).left (chain (q ∷ rs)) (granted txn range (tree_at state t).pairs)) (sym now) grown;
    vacant = subst (λ (l : ℕ). IsChain d l rest.rest) (sym puts.pool_link)
        (on_chain c d (c q).left rest.rest (on_right c d rs rest.rest staying) rest.on);
    same = λ r. let k = in_pool r in let l = ap (times r) buffer.rows_are in omega arith;
    long =
        let k = ap (λ (l : List ℕ). length l) rest.is in
        let l = ap (λ (l : List ℕ). length l) buffer.rows_are in
        omega arith;
  }

  puts_first : Becomes trees rows c d mode mode' state (set state t grant) f NoRow 0 1
  puts_first = becomes forest grows buffer.gapless 0 1 (let k = ap (λ (l : List ℕ). length l) rest.is in omega arith)

-- a buffer begins

is_less : (m n : ℕ) → m < n → nat_lt m n ≡ true
is_less m n lt = grind (arith, nat_tests)

no_tree : (c : Nodes) (link : ℕ) (t : Tree) → LeadsTo c link t → link ≡ 0 → t ≡ leaf
no_tree c link leaf leads is = refl
no_tree c link (node a r b) leads is = absurd (let e = leads.0 in omega arith)

module _ {trees rows t q txn : ℕ} {range : Interval} {c d : Nodes} {mode mode' : ℕ → Mode} {state : List TreeState}
    {f : Forest} {setting : Setting}
    (forest : IsForest trees rows c mode state f) (tree : t < trees) (begins : Begins setting trees t q txn range c d (mode t) (mode' t))
    (only : ChangesOnly (t ∷ trees ∷ q ∷ []) c d) (other_modes : KeepsModes trees t mode mode') where
  bare_tree : TreeAt c (c t).left (f.tree t) (tree_at state t).pairs
  bare_tree = as_tree c (c t).left (f.tree t) (tree_at state t).pairs (mode t) (subst IsTree (sym begins.was) tt) (forest.grown t tree)

  none_there : bare_tree.tree ≡ leaf
  none_there = no_tree c (c t).left bare_tree.tree bare_tree.leads begins.empty

  is_leaf : f.tree t ≡ search_tree leaf
  is_leaf = bare_tree.is ∙ ap search_tree none_there

  no_pairs : (tree_at state t).pairs ≡ []
  no_pairs = sym bare_tree.pairs_are ∙ ap (pairs_in c) none_there

  no_buffer : IsBuffer c (c t).left (f.tree t) (tree_at state t).pairs txn 0 []
  no_buffer = record {
    rows_are = ap rows_at is_leaf;
    leads = begins.empty;
    owned = tt;
    pairs_are = sym no_pairs;
    count_is = refl;
    gapless = λ r gap h. subst (λ (x : Growth). GapIn c x r gap) is_leaf h;
  }

  empty_state : tree_at state t ≡ fresh
  empty_state i = record { pairs = no_pairs i; mode = (sym (forest.modes t tree) ∙ begins.was) i }

  after_begin : tree_after setting txn (Ask t range Buffered) (tree_at state t)
      ≡ record { pairs = granted txn range (tree_at state t).pairs; mode = Buffer txn 1 }
  after_begin =
      ap (tree_after setting txn (Ask t range Buffered)) empty_state
      ∙ ((λ i. if is_less 0 setting.plan.buffer begins.room i then record { pairs = granted txn range []; mode = Buffer txn 1 }
      else record { pairs = pairs_by (others txn range []) txn range []; mode = TreeMode 100 })
      ∙ (λ i. record { pairs = granted txn range (sym no_pairs i); mode = Buffer txn 1 }))

  pub begin_replies : IsReplied setting txn (Ask t range Buffered) state
  begin_replies =
      ap (replied setting txn (Ask t range Buffered)) empty_state
      ∙ (λ i. Ask t range (if is_less 0 setting.plan.buffer begins.room i then Buffered else reply_by (others txn range [])))

  pub begun : Becomes trees rows c d mode mode' state (after_deed setting txn (Ask t range Buffered) state) f NoRow 0 1
  begun = subst (λ (s : TreeState). Becomes trees rows c d mode mode' state (set state t s) f NoRow 0 1) (sym after_begin)
      (puts_first forest tree no_buffer begins.puts begins.now only other_modes)

-- a buffer gets one row more

module _ {trees rows t q txn count : ℕ} {range : Interval} {c d : Nodes} {mode mode' : ℕ → Mode} {state : List TreeState}
    {f : Forest} {setting : Setting}
    (forest : IsForest trees rows c mode state f) (tree : t < trees)
    (appends : Appends setting trees t q txn count range c d (mode t) (mode' t))
    (only : ChangesOnly (t ∷ trees ∷ q ∷ []) c d) (other_modes : KeepsModes trees t mode mode') where
  old_chain : ChainAt c (c t).left (f.tree t) (tree_at state t).pairs txn count
  old_chain = as_chain c (c t).left (f.tree t) (tree_at state t).pairs (mode t) txn count appends.was (forest.grown t tree)

  old_buffer : IsBuffer c (c t).left (f.tree t) (tree_at state t).pairs txn count old_chain.rows
  old_buffer = record {
    rows_are = ap rows_at old_chain.is;
    leads = old_chain.leads;
    owned = old_chain.owned;
    pairs_are = old_chain.pairs_are;
    count_is = old_chain.count_is;
    gapless = chain_gapless c (f.tree t) old_chain.rows old_chain.is;
  }

  fits : is_buffered setting.plan.buffer txn (tree_at state t).pairs (Buffer txn count) ≡ true
  fits = ap₂ (λ (x y : Bool). x && y) (eq-eqb txn txn refl) (is_less count setting.plan.buffer appends.room)

  old_state : tree_at state t ≡ record { pairs = (tree_at state t).pairs; mode = Buffer txn count }
  old_state i = record { pairs = (tree_at state t).pairs; mode = (sym (forest.modes t tree) ∙ appends.was) i }

  after_append : tree_after setting txn (Ask t range Buffered) (tree_at state t)
      ≡ record { pairs = granted txn range (tree_at state t).pairs; mode = Buffer txn (count + 1) }
  after_append =
      ap (tree_after setting txn (Ask t range Buffered)) old_state
      ∙ (λ i. if fits i then record { pairs = granted txn range (tree_at state t).pairs; mode = Buffer txn (count + 1) }
      else record { pairs = pairs_by (others txn range (tree_at state t).pairs) txn range (tree_at state t).pairs; mode = TreeMode 0 })

  pub append_replies : IsReplied setting txn (Ask t range Buffered) state
  append_replies =
      ap (replied setting txn (Ask t range Buffered)) old_state
      ∙ (λ i. Ask t range (if fits i then Buffered else reply_by (others txn range (tree_at state t).pairs)))

  pub appended : Becomes trees rows c d mode mode' state (after_deed setting txn (Ask t range Buffered) state) f NoRow 0 1
  appended = subst (λ (s : TreeState). Becomes trees rows c d mode mode' state (set state t s) f NoRow 0 1) (sym after_append)
      (puts_first forest tree old_buffer appends.puts appends.now only other_modes)

-- a buffer ends

module _ {trees rows txn owner count : ℕ} {c d : Nodes} {mode mode' : ℕ → Mode} {state : List TreeState} {f : Forest}
    {setting : Setting} {deed : Deed}
    {olds : List ℕ} {new : Cut} {taken given : List ℕ} (forest : IsForest trees rows c mode state f) (tree : tree_of deed < trees)
    (ends : Ends setting txn owner count deed (tree_of deed) c d (mode (tree_of deed)) (mode' (tree_of deed)) olds new taken given)
    (pool_moves : MovesPool trees c d taken given) (only : ChangesOnly (tree_of deed ∷ trees ∷ olds ++ taken) c d)
    (other_modes : KeepsModes trees (tree_of deed) mode mode') where
  abbrev t : ℕ
  t = tree_of deed

  ending : ChainAt c (c (tree_of deed)).left (f.tree (tree_of deed)) (tree_at state (tree_of deed)).pairs owner count
  ending = as_chain c (c t).left (f.tree t) (tree_at state t).pairs (mode t) owner count ends.was (forest.grown t tree)

  all_shown : ending.rows ≡ olds
  all_shown = chain_one c (c t).left ending.rows olds ending.leads ends.shows

  old_rows : rows_at (f.tree (tree_of deed)) ≡ olds
  old_rows = ap rows_at ending.is ∙ all_shown

  buffered : buffered_state owner count c olds ≡ tree_at state (tree_of deed)
  buffered =
      let p : folded owner c olds ≡ (tree_at state t).pairs = ap (folded owner c) (sym all_shown) ∙ ending.pairs_are in
      let m : Buffer owner count ≡ (tree_at state t).mode = sym ends.was ∙ forest.modes t tree in
      (λ i. record { pairs = p i; mode = m i })

  unused : BeginsWith c f.pool taken pool_moves.rest
  unused = cut_chain c (c trees).left taken f.pool pool_moves.rest forest.vacant pool_moves.takes

  pool_rows : (q : ℕ) → times q f.pool ≡ times q taken + times q unused.rest
  pool_rows q = ap (times q) unused.is ∙ times-++ q taken unused.rest

  leaving : Moves trees (tree_of deed) c d f (olds ++ taken)
  leaving = record {
    tree = tree;
    only = only;
    stand = λ q. let a = times-++ q olds taken in let e = ap (times q) old_rows in let k = pool_rows q in omega arith;
  }

  resting : AgreeOn c d unused.rest
  resting q some =
      let m = one_place forest t tree q in
      let k = pool_rows q in
      let z = times-++ q olds taken in
      let e = ap (times q) old_rows in
      off forest leaving q (omega arith) (omega arith)

  abbrev after : TreeState
  after = tree_after setting txn deed (tree_at state t)

  tree_there : LeadsTo d (d (tree_of deed)).left (bare new)
  tree_there = fill_leads d (λ _. leaf) (d t).left new refl ends.shows_new
      (subst (λ (ls : List ℕ). AllGrow d (λ _. leaf) ls) (sym ends.no_hangs) tt)

  regrows : Regrows trees (tree_of deed) c d mode mode' f (tree_after setting txn deed (tree_at state (tree_of deed))) (olds ++ taken)
      (search_tree (bare new)) (given ++ unused.rest)
  regrows = record {
    moves = leaving;
    other_modes = other_modes;
    mode_is = ends.mode ∙ ap (λ (s : TreeState). (tree_after setting txn deed s).mode) buffered;
    grown = tree_represents d (d t).left (bare new) after.pairs (mode' t) ends.is_tree tree_there
        (ends.pairs ∙ ap (λ (s : TreeState). (tree_after setting txn deed s).pairs) buffered);
    vacant = join_chain d (d trees).left given unused.rest pool_moves.rest pool_moves.gives
        (on_chain c d pool_moves.rest unused.rest resting unused.on);
    same = λ q.
        let k = pool_rows q in
        let l = times-++ q given unused.rest in
        let m = ends.each_row q in
        let e = ap (times q) old_rows in
        omega arith;
    long =
        let k = ap (λ (l : List ℕ). length l) unused.is in
        let e = ap (λ (l : List ℕ). length l) old_rows in
        let m = ends.all_rows in
        omega (arith, length-append given unused.rest, length-append taken unused.rest);
  }

  pub end_replies : IsReplied setting txn deed state
  end_replies = ap (replied setting txn deed) (sym buffered) ∙ ends.replies

  pub ended : Becomes trees rows c d mode mode' state (after_deed setting txn deed state)
      f NoRow (length olds) (length (in_order (bare new)))
  ended = becomes forest regrows (chain_gapless c (f.tree t) ending.rows ending.is) (length olds) (length (in_order (bare new)))
      (let k = ap (λ (l : List ℕ). length l) unused.is in
      let m = ends.all_rows in
      omega (arith, length-append given unused.rest, length-append taken unused.rest))

-- a buffer is dropped whole

run_before : (d : Nodes) (link last next : ℕ) (front : List ℕ) → IsRun d link front (last + 1) → (d last).left ≡ next
    → IsRun d link (front ++ last ∷ []) next
run_before d link last next [] runs joint = (runs, joint)
run_before d link last next (r ∷ front) runs joint = (runs.0, run_before d (d r).left last next front runs.1 joint)

chain_run : (c : Nodes) (link last : ℕ) (front : List ℕ) → IsChain c link (front ++ last ∷ []) → IsRun c link front (last + 1)
chain_run c link last [] leads = leads.0
chain_run c link last (r ∷ front) leads = (leads.0, chain_run c (c r).left last front leads.1)

module _ {trees rows t owner count last : ℕ} {c d : Nodes} {mode mode' : ℕ → Mode} {state : List TreeState} {f : Forest}
    {front : List ℕ}
    (forest : IsForest trees rows c mode state f) (tree : t < trees)
    (drops : Drops trees t owner count c d (mode t) (mode' t) front last) (only : ChangesOnly (t ∷ trees ∷ last ∷ []) c d)
    (other_modes : KeepsModes trees t mode mode') where
  dropping : ChainAt c (c t).left (f.tree t) (tree_at state t).pairs owner count
  dropping = as_chain c (c t).left (f.tree t) (tree_at state t).pairs (mode t) owner count drops.was (forest.grown t tree)

  dropped_rows : rows_at (f.tree t) ≡ front ++ last ∷ []
  dropped_rows = ap rows_at dropping.is ∙ chain_one c (c t).left dropping.rows (front ++ last ∷ []) dropping.leads drops.shows

  front_same : AgreeOn c d front
  front_same r some =
      let a = times-++ r front (last ∷ []) in
      let e = ap (times r) dropped_rows in
      let m = one_place forest t tree r in
      let h = total_has (λ s. times r (rows_at (f.tree s))) trees t tree in
      let o = (forest.further r (omega arith)).0 in
      changes_else c d t trees r (last ∷ []) only (λ e. omega arith) (λ e. omega arith) (omega arith)

  to_pool : IsRun d (d trees).left (front ++ last ∷ []) (c trees).left
  to_pool = run_before d (d trees).left last (c trees).left front
      (subst (λ (l : ℕ). IsRun d l front (last + 1)) (sym drops.pool_link)
      (on_run c d (c t).left front (last + 1) front_same (chain_run c (c t).left last front drops.shows)))
      drops.joint

  dropped_only : ChangesOnly (t ∷ trees ∷ (front ++ last ∷ []) ++ []) c d
  dropped_only r none =
      let a = times-++ r front (last ∷ []) in
      let b = times-++ r (front ++ last ∷ []) [] in
      only r (omega arith)

  module _ (setting : Setting) (range : Interval) (first : Bool) (whole : is_whole range ≡ true) where
    all_owned : (owner == owner) && is_whole range ≡ true
    all_owned = ap₂ (λ (x y : Bool). x && y) (eq-eqb owner owner refl) whole

    ends_whole : Ends setting owner owner count (whole_free t range first owner c (front ++ last ∷ [])) t c d
        (mode t) (mode' t) (front ++ last ∷ []) (end 0) [] (front ++ last ∷ [])
    ends_whole =
        let pairs : List Pair = folded owner c (front ++ last ∷ []) in
        let rest : TreeState = record { pairs = freed owner range pairs; mode = raised first (TreeMode 0) } in
        record {
          was = drops.was;
          is_tree = subst IsTree (sym drops.now) tt;
          shows = drops.shows;
          shows_new = drops.top;
          no_hangs = refl;
          each_row = λ q. omega arith;
          all_rows = omega arith;
          pairs = λ i. (if sym all_owned i then fresh else rest).pairs;
          mode = drops.now ∙ (λ i. (if sym all_owned i then fresh else rest).mode);
          replies = λ i. Free t range first (if all_owned i then length pairs else count_freed owner range pairs);
        }

    all_to_pool : MovesPool trees c d [] (front ++ last ∷ [])
    all_to_pool = record { rest = (c trees).left; takes = refl; gives = to_pool }

    pub drop_replies : IsReplied setting owner (whole_free t range first owner c (front ++ last ∷ [])) state
    drop_replies = end_replies forest tree ends_whole all_to_pool dropped_only other_modes

    pub dropped : Becomes trees rows c d mode mode' state
        (after_deed setting owner (whole_free t range first owner c (front ++ last ∷ [])) state)
        f NoRow (length (front ++ last ∷ [])) 0
    dropped = ended forest tree ends_whole all_to_pool dropped_only other_modes

-- the owner of a buffer asks who holds

no_others : (txn : ℕ) (range : Interval) (pairs : List Pair) → AllOwn txn pairs → filter (is_others txn range) pairs ≡ []
no_others txn range [] all = refl
no_others txn range (p ∷ ps) all = grind (arith, nat_tests, no_others txn range ps all.1, all.0)

owner_alone : (owner count : ℕ) (range : Interval) (t : TreeState) → IsOwned t.pairs t.mode → t.mode ≡ Buffer owner count
    → others owner range t.pairs ≡ []
owner_alone owner count range t owned is =
    ap (λ (l : List Pair). ascending (map (λ p. p.owner) l))
    (no_others owner range t.pairs (subst (λ (m : Mode). IsOwned t.pairs m) is owned))

module _ {trees rows t owner count : ℕ} {c : Nodes} {mode : ℕ → Mode} {state : List TreeState} {f : Forest}
    (forest : IsForest trees rows c mode state f) (sound : AllSound state) (tree : t < trees) (was : mode t ≡ Buffer owner count)
    (setting : Setting) (txn : ℕ) (range : Interval) where
  mode_there : (tree_at state t).mode ≡ Buffer owner count
  mode_there = sym (forest.modes t tree) ∙ was

  pub who_replies : IsReplied setting txn (Who t range owner []) state
  who_replies = ap (λ (l : List ℕ). Who t range owner l) (owner_alone owner count range (tree_at state t) (sound t).owned mode_there)

  kept_mode : (m : Mode) → m ≡ Buffer owner count → mode_asked owner m ≡ m
  kept_mode m is =
      ap (mode_asked owner) is
      ∙ ((λ i. if eq-eqb owner owner refl i then Buffer owner count else TreeMode 0) ∙ sym is)

  pub who_stays : after_deed setting txn (Who t range owner []) state ≡ state
  who_stays =
      ap (λ (m : Mode). set state t (record { pairs = (tree_at state t).pairs; mode = m })) (kept_mode (tree_at state t).mode mode_there)
      ∙ set-get_or state t fresh

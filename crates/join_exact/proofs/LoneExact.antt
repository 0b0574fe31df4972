-- What the parts hold where a row has been made to stand alone.
use Rattle.std.specs.Prelude.{◌≡◌, refl, ◌≢◌, List, ℕ, ◌+◌, ◌*◌, ◌≤◌, ◌<◌, get_or}
use Rattle.std.proofs.Math.Path.{ap}
use Rattle.std.proofs.Common.{sym, ◌∙◌, inl, arith}
use Rattle.std.proofs.Math.Decide.{ℕ_discrete}
use Rattle.tree_laws.specs.Ancestor.{none}
use Rattle.span.specs.Numbers.{reach_of}
use Rattle.layer.specs.Layout.{field_stride, number_stride, entry_stride, parent_place, first_place, last_place, next_place, upper_place, path_place, size_place, set_size_place, depth_place, start_place, next_free_place}
use Rattle.layer.specs.Row.{field_at, number_at, entry_at}
use Rattle.layer.specs.Entries.{entry_from}
use Rattle.layer.specs.Layer.{set_size}
use Rattle.join_laws.specs.Lone.{Lone, Kept}
use Rattle.renumber_laws.specs.Column.{put}
use Rattle.join.specs.Attach.{new_links}
use Rattle.join.specs.Lone.{lone_fields, lone_numbers, lone_entries}
use Rattle.renumber.specs.NumberWalk.{Written, written}
use Rattle.renumber_exact.specs.Lent.{Long, layer_in, SameRest}
use Rattle.join_exact.proofs.AttachExact.{put_past}
use Rattle.renumber_exact.specs.Columns.{Holds, RowView, row_same, row_set}
use Rattle.renumber_exact.specs.EntryColumns.{above_entry, entries_hold, entries_own, entries_other}

-- the parts with row x standing alone
abbrev pub lone_parts : Written → ℕ → Written
lone_parts p x = written (lone_fields p.fields x) (lone_numbers p.numbers x) (lone_entries p.ancestors x)

module _ {c : ℕ} (p : Written) (fit : Long c p) (x : ℕ) (l : x < c) where
  held_fields : Holds field_stride c p.fields
  held_fields = record { most = fit.most; long = fit.fields }

  held_numbers : Holds number_stride c p.numbers
  held_numbers = record { most = fit.most; long = fit.numbers }

  held_entries : Holds entry_stride c p.ancestors
  held_entries = record { most = fit.most; long = fit.ancestors }

  abbrev pub own : ℕ → ℕ
  own = put (put (put (put (put (put (put (put (put (λ j. field_at p.fields x j) parent_place none) first_place none) last_place none) next_place none)
      upper_place none) path_place none) size_place 1) set_size_place 1) depth_place 0

  pub fields : RowView field_stride c p.fields x (lone_fields p.fields x) own
  unfolding lone_fields new_links
  fields =
      row_set _ (row_set _ (row_set _ (row_set _ (row_set _ (row_set _ (row_set _ (row_set _ (row_set _ (row_same held_fields x)
      l parent_place none (omega arith)) l first_place none (omega arith)) l last_place none (omega arith)) l next_place none (omega arith))
      l upper_place none (omega arith)) l path_place none (omega arith)) l size_place 1 (omega arith)) l set_size_place 1 (omega arith))
      l depth_place 0 (omega arith)

  numbers : RowView number_stride c p.numbers x (lone_numbers p.numbers x) (put (put (λ j. number_at p.numbers x j) start_place 0) next_free_place 1)
  unfolding lone_numbers
  numbers = row_set _ (row_set _ (row_same held_numbers x) l start_place 0 (omega arith)) l next_free_place 1 (omega arith)

  entry_lone : (i : ℕ) → i < entry_stride → entry_at (lone_entries p.ancestors x) x i ≡ entry_from x (reach_of 1) i none
  unfolding lone_entries
  entry_lone i b = entries_own held_entries x none 1 l i b
      ∙ ap (λ (e : ℕ). entry_from x (reach_of 1) i e) (above_entry held_entries none i (inl refl) b)

  pub lone_long : Long c (lone_parts p x)
  unfolding lone_entries
  lone_long = record {
    most = fit.most;
    fields = fields.holds.long;
    numbers = numbers.holds.long;
    ancestors = (entries_hold held_entries x none 1 l).long;
  }

  -- parts with these numbers and entries whose fields are the same but for what is not the layer's
  module _ {f : List ℕ} {r : ℕ → ℕ} (view : RowView field_stride c p.fields x f r) (same : (j : ℕ) → j ≤ depth_place → r j ≡ own j) where
    abbrev left : Written
    left = written f (lone_numbers p.numbers x) (lone_entries p.ancestors x)

    given : (j : ℕ) → j ≤ depth_place → get_or f (x * field_stride + j) 0 ≡ own j
    given j b = view.own j (omega arith) ∙ same j b

    pub lone_in : (n : ℕ) → Lone (layer_in left n) x
    unfolding put
    lone_in n = record {
      parent_none = given parent_place (omega arith);
      depth_zero = given depth_place (omega arith);
      first_none = given first_place (omega arith);
      last_none = given last_place (omega arith);
      next_none = given next_place (omega arith);
      upper_none = given upper_place (omega arith);
      path_none = given path_place (omega arith);
      size_one = given size_place (omega arith);
      set_size_one = set;
      start_zero = numbers.own start_place (omega arith);
      next_free_one = numbers.own next_free_place (omega arith);
      filled = λ i b. entry_lone i b ∙ ap (λ (s : ℕ). entry_from x (reach_of s) i none) (sym set);
    }
      where
        set : set_size (layer_in left n) x ≡ 1
        set = given set_size_place (omega arith)

    -- the other rows
    pub kept_in : (m n y : ℕ) → y ≢ x → Kept (layer_in p m) (layer_in left n) y
    unfolding lone_entries
    kept_in m n y d = record {
      same_parent = view.others y parent_place (omega arith) d;
      same_depth = view.others y depth_place (omega arith) d;
      same_first = view.others y first_place (omega arith) d;
      same_last = view.others y last_place (omega arith) d;
      same_next = view.others y next_place (omega arith) d;
      same_upper = view.others y upper_place (omega arith) d;
      same_path = view.others y path_place (omega arith) d;
      same_size = view.others y size_place (omega arith) d;
      same_set_size = view.others y set_size_place (omega arith) d;
      same_start = numbers.others y start_place (omega arith) d;
      same_next_free = numbers.others y next_free_place (omega arith) d;
      same_entry = λ i b. entries_other held_entries x none 1 l y i d b;
    }

  pub stands_alone : (n : ℕ) → Lone (layer_in (lone_parts p x) n) x
  stands_alone = lone_in fields (λ _ _. refl)

  pub stays : (n y : ℕ) → y ≢ x → Kept (layer_in p n) (layer_in (lone_parts p x) n) y
  stays n = kept_in fields (λ _ _. refl) n n

  -- what is not the layer's, of all rows
  pub lone_rest : SameRest p.fields (lone_fields p.fields x)
  lone_rest y k a b = elim (ℕ_discrete y x) [ yes e ↦ rw e (fields.own k b ∙ own_rest) | no d ↦ fields.others y k b d ]
    where
      own_rest : own k ≡ field_at p.fields x k
      own_rest = put_past _ depth_place 0 k a ∙ put_past _ set_size_place 1 k (omega arith) ∙ put_past _ size_place 1 k (omega arith)
          ∙ put_past _ path_place none k (omega arith) ∙ put_past _ upper_place none k (omega arith) ∙ put_past _ next_place none k (omega arith)
          ∙ put_past _ last_place none k (omega arith) ∙ put_past _ first_place none k (omega arith) ∙ put_past _ parent_place none k (omega arith)

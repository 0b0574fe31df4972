-- The code's renumbering of a head is the renumbering that 01 asks for, and it gives a start to as many rows as lie at and below the head.
use Rattle.std.specs.Prelude.{◌≡◌, refl, true, ◌≢◌, List, ℕ, ◌≤◌, ◌<◌}
use Rattle.std.proofs.Common.{◌∙◌, arith}
use Rattle.span.specs.Constants.{limit}
use Rattle.layer.specs.Layout.{field_stride, parent_place, first_place, last_place, next_place, upper_place, path_place, size_place, set_size_place, depth_place}
use Rattle.layer.specs.Row.{field_at}
use Rattle.layer.specs.Spans.{end}
use Rattle.layer.specs.Layer.{Layer, parent, depth, upper}
use Rattle.join_laws.specs.Lone.{Kept}
use Rattle.join_laws.specs.Renumbered.{Below, rows, Renumbered}
use Rattle.renumber_laws.specs.Sizes.{Sizing}
use Rattle.renumber_laws.specs.SizesSwept.{Sized}
use Rattle.renumber_laws.specs.Numbers.{Numbers}
use Rattle.renumber_laws.specs.Renumbering.{sizes_of, numbers_of, with_columns, Renumberable}
use Rattle.renumber_laws.proofs.Renumbering.{links_of}
use Rattle.renumber_laws.proofs.WalkedLaws.{last_numbers, last_renumbered, last_unused}
use Rattle.renumber_laws.proofs.SameRowsLaws.{SameRow, kept_row, renumbered_same}
use Rattle.renumber.specs.declared.Head.{Head}
use Rattle.counts.specs.Count.{steps_of}
use Rattle.renumber.specs.SizeWalk.{size_walk}
use Rattle.renumber.specs.NumberWalk.{Written, written, Walked}
use Rattle.renumber.specs.Renumber.{renumbered}
use Rattle.renumber_exact.specs.Lent.{Long, layer_in, SameRest}
use Rattle.renumber_exact.specs.SizeWalkExact.{Sizes, LinksIn, sizing_after, after_true, after_held}
use Rattle.renumber_exact.specs.NumberColumns.{Numbered}
use Rattle.renumber_exact.specs.NumberWalkExact.{numbers_after, after_numbered, after_given}

-- a head as a seat has it
abbrev pub head_at : Layer → ℕ → Head
head_at m h = record { row = h; upper = upper m h; rows = rows m h }

-- what a renumbering leaves
pub record RenumberedExactly (c : ℕ) (t : Written) (n h : ℕ) (z : Walked) : Type 0 where
  pub long : Long c z.parts
  pub renumbered : Renumbered (layer_in t n) (layer_in z.parts n) h
  pub given : z.given ≡ rows (layer_in t n) h
  pub rest : SameRest t.fields z.parts.fields
  pub unused : (x : ℕ) → n ≤ x → x < c → Kept (layer_in t n) (layer_in z.parts n) x

module _ {c : ℕ} (t : Written) (n h : ℕ) (fit : Long c t) (room : n ≤ c) (g : Renumberable (layer_in t n) h)
    (safe : (d : Layer) → Renumbered (layer_in t n) d h → (x : ℕ) → x < n → end d x ≤ limit) where
  abbrev m : Layer
  m = layer_in t n

  links : LinksIn (links_of m) t.fields
  links = record { parents = λ y. refl; firsts = λ y. refl; nexts = λ y. refl }

  sizes : Sizes c t.fields t.fields (sizes_of m)
  sizes = record { holds = record { most = fit.most; long = fit.fields }; size = λ y. refl; path = λ y. refl; rest = λ y k a d e. refl }

  -- the first walk
  abbrev f : List ℕ
  f = size_walk (steps_of (rows m h)) t.fields (record { row = h; down = true; met = 0 })

  abbrev s : Sizing
  s = sizing_after g room links sizes

  sized : Sized (parent m) (depth m) n h (sizes_of m) s
  sized = after_true g room links sizes

  held : Sizes c t.fields f s
  held = after_held g room links sizes

  kept : (y k : ℕ) → k < field_stride → k ≢ size_place → k ≢ path_place → field_at f y k ≡ field_at t.fields y k
  kept = held.rest

  links_after : LinksIn (links_of m) f
  links_after = record {
    parents = λ y. kept y parent_place (omega arith) (λ e. omega arith) (λ e. omega arith);
    firsts = λ y. kept y first_place (omega arith) (λ e. omega arith) (λ e. omega arith);
    nexts = λ y. kept y next_place (omega arith) (λ e. omega arith) (λ e. omega arith);
  }

  first : Numbered c f (written f t.numbers t.ancestors) (numbers_of m s.size)
  first = record {
    fields = held.holds;
    numbers = record { most = fit.most; long = fit.numbers };
    ancestors = record { most = fit.most; long = fit.ancestors };
    upper = λ y. kept y upper_place (omega arith) (λ e. omega arith) (λ e. omega arith);
    size = held.size;
    set_size = λ y. kept y set_size_place (omega arith) (λ e. omega arith) (λ e. omega arith);
    rest = λ y k a d e o. refl;
    start = λ y. refl;
    next_free = λ y d. refl;
    entry = λ y i j. refl;
  }

  -- the second walk
  within : (x : ℕ) → x < n → Below m h x → end (with_columns m s.path (last_numbers g sized)) x ≤ limit
  within x l b = safe (with_columns m s.path (last_numbers g sized)) (last_renumbered g sized) x l

  abbrev after : Walked
  after = numbers_after g sized room links_after held.path first within

  numbers : Numbered c f after.parts (last_numbers g sized)
  numbers = after_numbered g sized room links_after held.path first within

  -- fields that neither walk stores
  stays : (y k : ℕ) → k < field_stride → k ≢ upper_place → k ≢ size_place → k ≢ set_size_place → k ≢ path_place
      → field_at after.parts.fields y k ≡ field_at t.fields y k
  stays y k a d₁ d₂ d₃ d₄ = numbers.rest y k a d₁ d₂ d₃ ∙ kept y k a d₂ d₄

  same_row : (x : ℕ) → x < c → SameRow (with_columns m s.path (last_numbers g sized)) (layer_in after.parts n) x
  same_row x l = record {
    node = record {
      same_parent = stays x parent_place (omega arith) (λ e. omega arith) (λ e. omega arith) (λ e. omega arith) (λ e. omega arith);
      same_depth = stays x depth_place (omega arith) (λ e. omega arith) (λ e. omega arith) (λ e. omega arith) (λ e. omega arith);
    };
    links = record {
      same_first = stays x first_place (omega arith) (λ e. omega arith) (λ e. omega arith) (λ e. omega arith) (λ e. omega arith);
      same_last = stays x last_place (omega arith) (λ e. omega arith) (λ e. omega arith) (λ e. omega arith) (λ e. omega arith);
      same_next = stays x next_place (omega arith) (λ e. omega arith) (λ e. omega arith) (λ e. omega arith) (λ e. omega arith);
    };
    upper = numbers.upper x;
    path = numbers.rest x path_place (omega arith) (λ e. omega arith) (λ e. omega arith) (λ e. omega arith) ∙ held.path x;
    size = numbers.size x;
    set_size = numbers.set_size x;
    start = numbers.start x;
    next_free = numbers.next_free x (λ e. omega (arith, fit.most));
    entry = numbers.entry x;
  }

  pub renumbered_exactly : RenumberedExactly c t n h (renumbered t (head_at m h))
  unfolding renumbered
  renumbered_exactly = record {
    long = record {
      most = fit.most;
      fields = numbers.fields.long;
      numbers = numbers.numbers.long;
      ancestors = numbers.ancestors.long;
    };
    renumbered = renumbered_same g (last_renumbered g sized) record { count = refl; row = λ x l. same_row x (omega arith) };
    given = after_given g sized room links_after held.path first within;
    rest = λ y k a b. stays y k b (λ e. omega arith) (λ e. omega arith) (λ e. omega arith) (λ e. omega arith);
    unused = λ x i l. kept_row (last_unused g sized x i (λ e. omega (arith, fit.most))) (same_row x l);
  }

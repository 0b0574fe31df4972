-- What is proved of `Shows`.
use Rattle.std.specs.Prelude.{◌≡◌, refl, Bool, ◌&&◌, ◌≢◌, ℕ, suc, ◌<◌, eqb}
use Rattle.std.proofs.Common.{sym, ◌∙◌, arith, length-set}
use Rattle.laws.specs.Test.{Says, says_eq, says_map, says_and, pick}
use Rattle.tree_laws.specs.Ancestor.{none, Forest}
use Rattle.tree_laws.specs.AncestorLaws.{trans, anc_in}
use Rattle.tree_laws.specs.Nca.{Kindred}
use Rattle.tree_laws.specs.Top.{first_one}
use Rattle.tree_laws.specs.Answer.{Answer, Answers, SameList, Alike}
use Rattle.plain_list.specs.PlainList.{PlainList, empty_list, count_of, parent_of, label_of, with_node, under, with_root, with_link}
use Rattle.plain_list.proofs.Column.{length_named, gives_more, gives_set, gives_named}
use Rattle.plain_list.proofs.PlainListLaws.{node_count, root_count, link_count}
use Rattle.plain_list.specs.Naive.{naive_answer, naive_same}
use Rattle.plain_list.proofs.NaiveLaws.{naive_answers, says_same}
use Rattle.plain_list.proofs.AnswerLaws.{forest_agree, anc_agree, anc_agree_back, answers_unique, answers_agree, same_agree}
use Rattle.plain_list.specs.PlainStep.{root_in, naive_alike}
use Rattle.plain_list.specs.Proper.{Proper}
use Rattle.plain_list.proofs.Proper.{proper_forest, walk_enough, root_first}
use Rattle.plain_list.specs.Shows.{Shows}

pub shows_empty : (up label face : ℕ → ℕ) → Shows up label face empty_list
shows_empty up label face = record {
  parents = λ x l. absurd (omega arith);
  labels = λ x l. absurd (omega arith);
  faces = λ x l. absurd (omega arith);
}

-- Trees: two nodes stand in one exactly when their roots are one

module _ {capacity : ℕ} {p : PlainList} (t : Proper capacity p) {x y : ℕ} (l : x < count_of p) (m : y < count_of p) where
  one_root : root_in p x ≡ root_in p y → Kindred (parent_of p) x y
  one_root e = record { root = root_in p y; left = rw e at (root_first t x l).over; right = (root_first t y m).over }

  root_shared : Kindred (parent_of p) x y → root_in p x ≡ root_in p y
  root_shared k =
      let q = root_first t k.root (anc_in (proper_forest t) l k.left) in
      first_one (root_first t x l) record { over = trans q.over k.left; top = q.top }
      ∙ first_one record { over = trans q.over k.right; top = q.top } (root_first t y m)

module _ {capacity : ℕ} {p : PlainList} {up label face : ℕ → ℕ} (t : Proper capacity p) (s : Shows up label face p) where
  shown_forest : Forest up t.depth (count_of p)
  shown_forest = forest_agree (proper_forest t) s.parents

  pub roots_kindred : {x y : ℕ} → x < count_of p → y < count_of p → root_in p x ≡ root_in p y → Kindred up x y
  roots_kindred l m e =
      let k = one_root t l m e in
      record { root = k.root; left = anc_agree (proper_forest t) s.parents l k.left; right = anc_agree (proper_forest t) s.parents m k.right }

  pub kindred_roots : {x y : ℕ} → x < count_of p → y < count_of p → Kindred up x y → root_in p x ≡ root_in p y
  kindred_roots l m k = root_shared t l m record {
    root = k.root;
    left = anc_agree_back (proper_forest t) s.parents l k.left;
    right = anc_agree_back (proper_forest t) s.parents m k.right;
  }

  -- Questions

  -- the answer over up and label is the naive one
  pub naive_is : {x y : ℕ} {r : Answer} → x < count_of p → y < count_of p → root_in p x ≡ root_in p y → Answers up label x y r
      → naive_answer (parent_of p) (label_of p) (count_of p) x y ≡ r
  naive_is {x} {y} l m e a = answers_unique
      (proper_forest t)
      l
      m
      (naive_answers (proper_forest t) (label_of p) (count_of p) l m (walk_enough t x l) (walk_enough t y m) (one_root t l m e))
      (answers_agree shown_forest (λ z i. sym (s.parents z i)) (λ z i. sym (s.labels z i)) l m a)

  -- Alike

  -- by a column that is the list's: whether its lists over up are equal
  says_listed : {column own : ℕ → ℕ} → ((x : ℕ) → x < count_of p → column x ≡ own x) → {x y : ℕ} → x < count_of p → y < count_of p
      → Says (SameList up column x y) (naive_same (parent_of p) own (count_of p) x y)
  says_listed {own = own} e {x} {y} l m = says_map
      (same_agree (proper_forest t) s.parents e l m)
      (same_agree shown_forest (λ z i. sym (s.parents z i)) (λ z i. sym (e z i)) l m)
      (says_same (proper_forest t) own (count_of p) l m (walk_enough t x l) (walk_enough t y m))

  -- a test whether x and y are alike over up, label and face is the naive one
  pub naive_alike_is : {x y : ℕ} {b : Bool} → x < count_of p → y < count_of p → Says (Alike up label face x y) b → naive_alike p x y ≡ b
  naive_alike_is l m a = says_eq
      (λ z. record { labels = z.0; faces = z.1 })
      (λ z. (z.labels, z.faces))
      (says_and (says_listed s.labels l m) (λ _. says_listed s.faces l m))
      a

-- Growth

-- a node more, of parent v, label l and face f: the old nodes keep theirs
pub shows_node : {capacity : ℕ} {p : PlainList} {up up' label label' face face' : ℕ → ℕ} → Proper capacity p → Shows up label face p
    → ((x : ℕ) → x < count_of p → label' x ≡ label x) → ((x : ℕ) → x < count_of p → face' x ≡ face x) → {v l f : ℕ}
    → ((x : ℕ) → x < count_of p → up' x ≡ up x) → up' (count_of p) ≡ v → label' (count_of p) ≡ l → face' (count_of p) ≡ f
    → Shows up' label' face' (with_node p v l f)
unfolding with_node
shows_node {p = p} t s labels_stay faces_stay {v} {l} {f} stay new labelled faced = record {
  parents = λ x i. gives_more none p.parents refl s.parents stay new x (known x i);
  labels = λ x i. gives_more 0 p.labels t.labelled s.labels labels_stay labelled x (known x i);
  faces = λ x i. gives_more 0 p.faces t.faced s.faces faces_stay faced x (known x i);
}
  where
    known : (x : ℕ) → x < count_of (with_node p v l f) → x < suc (count_of p)
    known x i = omega (arith, node_count p v l f)

-- a new root: r comes under it, takes the label of the opening and is front where one is named, the other old nodes keep theirs
pub shows_root : {capacity : ℕ} {p : PlainList} {up up' label label' face face' : ℕ → ℕ} {r : ℕ} → Proper capacity p → Shows up label face p
    → (named : Bool) (opening : ℕ) → ((x : ℕ) → x < count_of p → label' x ≡ pick (named && eqb x r) opening (label x))
    → ((x : ℕ) → x < count_of p → face' x ≡ pick (named && eqb x r) 0 (face x))
    → ((x : ℕ) → x < count_of p → x ≢ r → up' x ≡ up x) → up' r ≡ count_of p → up' (count_of p) ≡ none → label' (count_of p) ≡ 0 → face' (count_of p) ≡ 0
    → Shows up' label' face' (with_root p r named opening)
unfolding with_node
shows_root {p = p} {r = r} t s named opening relabelled refaced stay turned new labelled faced =
    let old = under p r (count_of p) named opening in
    let parents = gives_set none p.parents refl s.parents turned stay in
    let labels = gives_named 0 p.labels t.labelled s.labels r opening named relabelled in
    let faces = gives_named 0 p.faces t.faced s.faces r 0 named refaced in
    record {
      parents = λ x i. gives_more none old.parents (length-set p.parents r (count_of p)) parents (λ _ _. refl) new x (known x i);
      labels = λ x i. gives_more 0 old.labels (length_named p.labels r _ named ∙ t.labelled) labels (λ _ _. refl) labelled x (known x i);
      faces = λ x i. gives_more 0 old.faces (length_named p.faces r _ named ∙ t.faced) faces (λ _ _. refl) faced x (known x i);
    }
  where
    known : (x : ℕ) → x < count_of (with_root p r named opening) → x < suc (count_of p)
    known x i = omega (arith, root_count p r named opening)

-- A link: x comes under v, has the label of the door and is front, the other nodes keep theirs

pub shows_link : {capacity : ℕ} {p : PlainList} {up up' label label' face face' : ℕ → ℕ} {x v door : ℕ} → Proper capacity p → Shows up label face p
    → up' x ≡ v → label' x ≡ door → face' x ≡ 0 → ((w : ℕ) → w < count_of p → w ≢ x → up' w ≡ up w)
    → ((w : ℕ) → w < count_of p → w ≢ x → label' w ≡ label w) → ((w : ℕ) → w < count_of p → w ≢ x → face' w ≡ face w)
    → Shows up' label' face' (with_link p x v door)
unfolding with_link
shows_link {p = p} {x = x} {v} {door} t s moved labelled faced stay keep keep_faces = record {
  parents = λ w i. gives_set none p.parents refl s.parents moved stay w (known w i);
  labels = λ w i. gives_set 0 p.labels t.labelled s.labels labelled keep w (known w i);
  faces = λ w i. gives_set 0 p.faces t.faced s.faces faced keep_faces w (known w i);
}
  where
    known : (w : ℕ) → w < count_of (with_link p x v door) → w < count_of p
    known w i = omega (arith, link_count p x v door)

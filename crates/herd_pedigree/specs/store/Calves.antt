-- One parent of each animal by place, and the calves of each parent, which stand in a chain.
use Rattle.std.specs.Prelude.{◌≡◌, ℕ, zero, suc, ◌<◌, ◌^◌, ◌==◌, cond, List, [], ◌∷◌, length, map, slice_index_or, Option, Some, None}
use Rattle.std.specs.Option.{option_map_or}
use Rattle.herd_pedigree.specs.declared.store.progeny.ChainNode.{ChainNode}

-- the place of the parent of each, and for how many more animals there is room
pub record Progeny : Type 0 where
  pub parents : List (Option ℕ)
  pub room : ℕ

-- what is kept of an animal with neither parent nor calves
abbrev pub alone : ChainNode
alone = record { parent = None; previous = None; next = None; first = None }

abbrev pub node_at : List ChainNode → ℕ → ChainNode
node_at nodes place = slice_index_or nodes place alone

-- the parent of an animal, the calves of that parent beside it, and its own first calf
abbrev pub parent_of : List ChainNode → ℕ → Option ℕ
parent_of nodes place = (node_at nodes place).parent

abbrev pub previous_of : List ChainNode → ℕ → Option ℕ
previous_of nodes place = (node_at nodes place).previous

abbrev pub next_of : List ChainNode → ℕ → Option ℕ
next_of nodes place = (node_at nodes place).next

abbrev pub first_of : List ChainNode → ℕ → Option ℕ
first_of nodes place = (node_at nodes place).first

abbrev pub parents_of : List ChainNode → List (Option ℕ)
parents_of nodes = map (λ node. node.parent) nodes

-- the calves from one on, at most so many
abbrev pub chain : List ChainNode → ℕ → Option ℕ → List ℕ
chain nodes zero calf = []
chain nodes (suc n) None = []
chain nodes (suc n) (Some calf) = calf ∷ chain nodes n (next_of nodes calf)

-- there are fewer animals than places, and each calf of a parent stands in its chain once:
-- what is next has less seniority
pub record AreChained (nodes : List ChainNode) : Type 0 where
  pub few : length nodes < 2 ^ 32
  pub seniority : ℕ → ℕ
  pub top : ℕ
  pub below : (calf : ℕ) → seniority calf < top
  pub within : (calf parent : ℕ) → parent_of nodes calf ≡ Some parent → parent < length nodes
  pub first : (parent calf : ℕ) → first_of nodes parent ≡ Some calf
      → (parent_of nodes calf ≡ Some parent) × (previous_of nodes calf ≡ None)
  pub foremost : (parent calf : ℕ) → parent_of nodes calf ≡ Some parent → previous_of nodes calf ≡ None
      → first_of nodes parent ≡ Some calf
  pub next : (calf other : ℕ) → next_of nodes calf ≡ Some other
      → (previous_of nodes other ≡ Some calf)
      × ((parent_of nodes other ≡ parent_of nodes calf) × (seniority other < seniority calf))
  pub previous : (calf other : ℕ) → previous_of nodes other ≡ Some calf → next_of nodes calf ≡ Some other
  pub single : (calf : ℕ) → parent_of nodes calf ≡ None → (next_of nodes calf ≡ None) × (previous_of nodes calf ≡ None)

-- another value at a place, where there is one
abbrev pub put : Option ℕ → Option ℕ → (ℕ → Option ℕ) → ℕ → Option ℕ
put place value f x = option_map_or (λ p. cond (x == p) value (f x)) place (f x)

-- so many animals have these kin
pub record Show (nodes : List ChainNode) (n : ℕ) (parent previous next first : ℕ → Option ℕ) : Type 0 where
  pub long : length nodes ≡ n
  pub parents : (place : ℕ) → parent_of nodes place ≡ parent place
  pub before : (place : ℕ) → previous_of nodes place ≡ previous place
  pub after : (place : ℕ) → next_of nodes place ≡ next place
  pub firsts : (place : ℕ) → first_of nodes place ≡ first place

-- Tracing the ancestors of an animal from the youngest to the oldest (Meuwissen and Luo 1992). Animals are named
-- by their ranks; the share kept for an ancestor p of x is in unit 2^-(g x - g p), where g is the depth.
use Rattle.std.specs.Prelude.{◌≡◌, ℕ, ◌+◌, ◌*◌, ◌-◌, ◌^◌, ◌<◌, ◌≤◌, List, length, slice_index, slice_set, sum_by, Option, None, Some}
use Rattle.std.specs.List.{range_with_len}
use Rattle.herd_lineage.specs.declared.lineage.Parents.{Parents}
use Rattle.herd_lineage.specs.declared.TheConstants.{MOST_ANIMALS}
use Rattle.herd_lineage.specs.Lineage.{IsLineage, depth_at}
use Rattle.herd_kinship.specs.Shares.{share}
use Rattle.herd_kinship.specs.declared.tracing.Met.{Met}
use Rattle.herd_kinship.specs.declared.tracing.Tracing.{Tracing}
use Rattle.herd_kinship.specs.Pending.{mark, Marks}
use Rattle.herd_kinship.specs.Ranks.{ranked}

-- the share kept for the rank p, brought to unit 2^-l; the list of shares goes by the distance from x
abbrev pub kept_share : ℕ → List Parents → ℕ → List ℕ → ℕ → ℕ
kept_share l rows x shares p = slice_index shares (x - p) * 2 ^ (l - depth_at rows x + depth_at rows p)

-- what the shares of the ranks below a border bring, each multiplied by what its rank has
abbrev pub brought : (ℕ → ℕ) → ℕ → (ℕ → ℕ) → ℕ
brought shares border has = sum_by (λ p. shares p * has p) (range_with_len 0 border)

-- the shares once y's share is given to its parent: half of it, brought to the parent's unit
abbrev pub given : List Parents → ℕ → List ℕ → ℕ → ℕ → Option ℕ → List ℕ
given rows x shares y own None = shares
given rows x shares y own (Some p) =
    slice_set shares (x - p) (slice_index shares (x - p) + own * 2 ^ (depth_at rows y - depth_at rows p - 1))

-- the parent p of y is older and less deep than y, and has room for y's share
pub record HasRoom (l : ℕ) (rows : List Parents) (x : ℕ) (shares : List ℕ) (y own p : ℕ) : Type 0 where
  pub rank : x < length rows
  pub met : y ≤ x
  pub lower : p < y
  pub long : x < length shares
  pub less_deep : depth_at rows p < depth_at rows y
  pub shallow : depth_at rows y ≤ l
  pub room : slice_index shares (x - p) + own * 2 ^ (depth_at rows y - depth_at rows p - 1) ≤ 2 ^ l

-- The ancestors of x from the border on are met, and nothing is kept for them. The shares below the border
-- are pending: to each animal there they bring just what x has of it, and together they are at most the whole.
pub record IsTracing (l : ℕ) (rows : List Parents) (x border : ℕ) (shares : List ℕ) : Type 0 where
  pub lineage : IsLineage l MOST_ANIMALS rows
  pub rank : x < length rows
  pub border_in : border ≤ x + 1
  pub long : x < length shares
  pub whole : brought (kept_share l rows x shares) border (λ _. 1) ≤ 2 ^ l
  pub pending : (j : ℕ) → j < border →
      brought (kept_share l rows x shares) border (λ p. share (ranked rows) l (Some p) j)
      ≡ 2 ^ l * share (ranked rows) l (Some x) j
  pub met : (distance : ℕ) → (distance ≤ x → border ≤ x - distance) → slice_index shares distance ≡ 0

-- x has this share of its ancestor j, in the unit of the two depths' difference, and it isn't 0
pub record IsShareOf (rows : List Parents) (x j own : ℕ) : Type 0 where
  pub some : 0 < own
  pub less_deep : depth_at rows j ≤ depth_at rows x
  pub own_is : own ≡ share (ranked rows) (depth_at rows x - depth_at rows j) (Some x) j

-- y is the first ancestor below the border, and x has this share of it
pub record IsNext (l : ℕ) (rows : List Parents) (x border y own : ℕ) : Type 0 where
  pub below : y < border
  pub share_is : IsShareOf rows x y own
  pub between : (j : ℕ) → y < j → j < border → share (ranked rows) l (Some x) j ≡ 0

-- what is told of an ancestor of x that is met, beside its share
pub record IsMetAs (rows : List Parents) (x : ℕ) (met : Met) : Type 0 where
  pub within : met.rank < length rows
  pub depth : met.depth ≡ depth_at rows met.rank
  pub steps : met.steps ≡ depth_at rows x - depth_at rows met.rank

-- the distance is that of a rank below the border, and a share is kept there
pub record IsPendingAt (x border : ℕ) (shares : List ℕ) (distance : ℕ) : Type 0 where
  pub near : distance ≤ x
  pub below : x - distance < border
  pub some : 0 < slice_index shares distance

-- what is pending is marked, and nothing else
pub record IsMarked (x border : ℕ) (shares chunks : List ℕ) : Type 0 where
  pub room : x < 64 * length chunks
  pub marked : (p : ℕ) → p < border → 0 < slice_index shares (x - p) → mark chunks (x - p) ≡ 1
  pub pending : (distance : ℕ) → mark chunks distance ≡ 1 → IsPendingAt x border shares distance

-- the marks once a parent is given a share
abbrev pub GivesMark : ℕ → List ℕ → List ℕ → Option ℕ → Type 0
GivesMark x old new None = new ≡ old
GivesMark x old new (Some p) = Marks old new (x - p) 1

-- the ancestors that are pending from x on, and their marks
pub record AreUnderWay (l : ℕ) (rows : List Parents) (x border : ℕ) (shares chunks : List ℕ) : Type 0 where
  pub tracing : IsTracing l rows x border shares
  pub marks : IsMarked x border shares chunks

-- there is room to trace so many animals, no share is kept, and nobody is marked
pub record AreIdle (animals : ℕ) (shares chunks : List ℕ) : Type 0 where
  pub room : animals ≤ length shares
  pub marks : animals ≤ 64 * length chunks
  pub nothing : (distance : ℕ) → slice_index shares distance ≡ 0
  pub unmarked : (distance : ℕ) → mark chunks distance ≡ 0

-- a tracing that has its animal's depth, and whose pending ancestors are marked
pub record IsUnderWay {A : Type 0} (l : ℕ) (rows : List Parents) (tracing : Tracing A) : Type 0 where
  pub depth : tracing.depth ≡ depth_at rows tracing.rank
  pub ancestors : AreUnderWay l rows tracing.rank tracing.border tracing.shares.items tracing.pending.chunks.items

-- a tracing of nobody, with room for so many animals
abbrev pub IsIdle : {A : Type 0} → ℕ → Tracing A → Type 0
IsIdle animals tracing = AreIdle animals tracing.shares.items tracing.pending.chunks.items

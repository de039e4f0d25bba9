-- What the starter and the workers of a level know of its queue, what the threads are given, and what a worker brings
-- back.
use Rattle.std.specs.Prelude.{◌≡◌, ◌==◌, ℕ, List, map, count_by}
use Rattle.std.specs.List.{All}
use Rattle.crossbeam_deque.specs.Handles.{Pass, view, IsPassOf, stealer_deque, worker_deque, worker_flavor, worker_port, worker_view}
use Rattle.crossbeam_deque.specs.declared.handles.Stealer.{Stealer}
use Rattle.herd_pool.specs.Blocks.{once_below, pass_view}
use Rattle.herd_pool.specs.declared.queue.PassView.{PassView}
use Rattle.herd_pool.specs.declared.starter.Starter.{Starter}
use Rattle.herd_pool.specs.declared.work.ComputedBlock.{ComputedBlock}
use Rattle.herd_pool.specs.declared.work.Work.{Ghosts as WorkOf}
use Rattle.herd_pool.specs.declared.worker.WorkerOutput.{WorkerOutput}

abbrev pub numbers : {O : Type 0} → List (ComputedBlock O) → List ℕ
numbers blocks = map (λ block. block.number) blocks

-- these are the first blocks of a level, each once and computed
pub record AreBlocks {O : Type 0}
    (IsComputed : ComputedBlock O → Type 0) (count : ℕ) (blocks : List (ComputedBlock O)) : Type 0 where
  pub each_once : (number : ℕ) → count_by (λ n. n == number) (numbers blocks) ≡ once_below number count
  pub computed : All IsComputed blocks

-- a worker's pass to this queue, by which it has taken these blocks
abbrev pub IsBlockPass : {A P : Type 0} → Stealer ℕ A PassView P → Pass ℕ PassView A → List ℕ → Type 0
IsBlockPass stealer pass taken = record {
  queue : IsPassOf (stealer_deque stealer) pass;
  view : view pass ≡ pass_view 1 0 taken;
}

module _ {W A S O : Type 0} (kind : WorkOf W A S O) (work : W) where
  -- The starter's end of the queue is the first, first in first out. It knows how many passes are out and how many
  -- blocks were pushed; it has those that it and the workers who are back took, each computed, and scratch that is
  -- ready
  abbrev pub IsStarter : ℕ → ℕ → Starter S O A → Type 0
  IsStarter out pushed starter = record {
    fifo : worker_flavor starter.queue ≡ 0;
    first : worker_port starter.queue ≡ 0;
    view : worker_view starter.queue ≡ pass_view out pushed (numbers starter.blocks.items);
    computed : All (kind.is_computed work) starter.blocks.items;
    ready : All (kind.is_ready work) starter.idle.items;
  }

  -- the starter of the queue that is stolen from here
  abbrev pub IsStarterOf : {P : Type 0} → Stealer ℕ A PassView P → ℕ → ℕ → Starter S O A → Type 0
  IsStarterOf stealer out pushed starter = record {
    deque : worker_deque starter.queue ≡ stealer_deque stealer;
    starter : IsStarter out pushed starter;
  }

  -- a worker came back with its pass to this queue, the blocks that it took, each computed, and its scratch, ready for
  -- others
  abbrev pub IsWorkerOutput : {P : Type 0} → Stealer ℕ A PassView P → WorkerOutput S O A → Type 0
  IsWorkerOutput stealer output = record {
    pass : IsBlockPass stealer output.pass (numbers output.blocks.items);
    computed : All (kind.is_computed work) output.blocks.items;
    ready : kind.is_ready work output.scratch;
  }

-- the work can be done, and the starter is the one of the queue that is stolen from here
pub record CanShare {W A S O P : Type 0} (kind : WorkOf W A S O) (work : W)
    (stealer : Stealer ℕ A PassView P) (starter : Starter S O A) : Type 0 where
  pub knows : kind.knows work
  pub of_queue : IsStarterOf kind work stealer 0 (worker_view starter.queue).pushed starter

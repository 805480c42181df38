-- What is computed for the records of a run: the word of a group once a fragment is added, and the items of the queue.
use Rattle.std.specs.Prelude.{◌≡◌, ℕ, ◌^◌, ◌<◌, ◌==◌, ◌&&◌, not, Option}
use Rattle.run_stages.specs.Allowed.{new_bytes, new_total, new_word}
use Rattle.run_stages.specs.Work.{Work, task_item, group_item, head_of, bytes_of, total_of}
use Rattle.run_purpose.specs.Heads.{old_head}
use Rattle.run_purpose.specs.declared.item.Item.{Item}
use Rattle.run_purpose.specs.declared.item.Item.TheVariants.{Whole, Group}
use Rattle.run_purpose.specs.declared.word.Adding.{Adding}
use Rattle.run_purpose.specs.declared.word.GroupWord.{GroupWord}

-- the parts of a group's word
pub record AreParts (x : ℕ) (word : GroupWord) : Type 0 where
  pub head : word.head ≡ head_of x
  pub bytes : word.bytes ≡ bytes_of x
  pub total : word.total ≡ total_of x

module _ (w : Work) (i : ℕ) (old : Option ℕ) where
  -- the parts of the new word of the task's group are below 2^16
  pub record FitsWord : Type 0 where
    pub bytes : new_bytes w i old < 2 ^ 16
    pub total : new_total w i old < 2 ^ 16

  -- The task's group has the new word, the task is linked to the old head, and the group is ready where its bytes are its
  -- total, which isn't 0
  pub record IsAdding (adding : Adding) : Type 0 where
    pub word : adding.word ≡ new_word w i old
    pub link : adding.link ≡ old_head old
    pub ready : adding.ready ≡ (new_bytes w i old == new_total w i old && not (new_total w i old == 0))

-- the datagram that an item of the queue stands for
abbrev pub value_of : Item → ℕ
value_of (Whole task) = task_item task
value_of (Group group) = group_item group

-- When the form of a question can be read: it is runs of elements, and a run has a number.
use Rattle.std.specs.Prelude.{◌≡◌, ℕ, ◌+◌, ◌*◌, ◌<◌, length}
use Rattle.fields.specs.Numbers.{AllBelow}
use Rattle.leaves.specs.declared.questions.Question.{Question}

pub record Formed (q : ℕ) (x : Question) : Type 0 where
  pub all : AllBelow q x.form.now
  pub long : length x.form.now ≡ (x.degree + 1) * x.length
  pub wide : 0 < x.length

-- Each field is read where the definition reads it.
use mathlib.Core.Path.{◌∙◌, ap}
use Rattle.rules.specs.RequirementRecord.{requirement_in, direction_of}
use Rattle.book.proofs.requirement.requirement_fields.Goals as goal

pub returns : goal.returns
unfolding requirement_in
returns c = rw (
  c.u16_at.ensures.reply,
  c.u8_at.ensures.reply,
  c.direction.ensures
      ∙ ap direction_of c.u8_at-2.ensures.reply,
  c.u32_at.ensures.reply,
  c.u64_at.ensures.reply,
  c.u32_at-2.ensures.reply,
  c.u32_at-3.ensures.reply,
)

-- The entries before lie in the sheet as they did, and the new one is asked for as one that does.
use Rattle.sheet.proofs.ContentsLaws.{more-inside}
use Rattle.sheet.proofs.contents.Contents.add.Goals as goal

pub invariant_of-self-2-clause-inside : goal.invariant_of-self-2-clause-inside
invariant_of-self-2-clause-inside c = more-inside c.args.self.now c.args.entry c.requires.room c.requires.part

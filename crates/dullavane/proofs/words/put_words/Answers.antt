-- Eight stores in a row are the eight words.
use native.Mathlib.Nat.{lt_of_lt_of_le}
use lib.Dec.{lit<}
use lib.ListN.{length-set}
use Rattle.dullavane.proofs.WordsLaws.{eight_stores}
use Rattle.dullavane.proofs.words.put_words.Goals as goal

pub bounds-words-1 : goal.bounds-words-1
bounds-words-1 c = simp length-set (lt_of_lt_of_le (lit< tt) c.requires)

pub bounds-words-2 : goal.bounds-words-2
bounds-words-2 c = simp length-set (lt_of_lt_of_le (lit< tt) c.requires)

pub bounds-words-3 : goal.bounds-words-3
bounds-words-3 c = simp length-set (lt_of_lt_of_le (lit< tt) c.requires)

pub bounds-words-4 : goal.bounds-words-4
bounds-words-4 c = simp length-set (lt_of_lt_of_le (lit< tt) c.requires)

pub bounds-words-5 : goal.bounds-words-5
bounds-words-5 c = simp length-set (lt_of_lt_of_le (lit< tt) c.requires)

pub bounds-words-6 : goal.bounds-words-6
bounds-words-6 c = simp length-set (lt_of_lt_of_le (lit< tt) c.requires)

pub bounds-words-7 : goal.bounds-words-7
bounds-words-7 c = simp length-set (lt_of_lt_of_le (lit< tt) c.requires)

pub returns : goal.returns
returns c =
    let t = c.args.tally in
    eight_stores c.args.words.now t.units t.requirements t.records t.least t.smoothing t.limit t.percent t.interval c.requires

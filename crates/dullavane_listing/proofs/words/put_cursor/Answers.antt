-- Each cursor's own words.
use borrow.Author.Rules.{rules}
use Prim.Native.Nat.{◌<◌}
use Rattle.dullavane_listing.proofs.words.put_cursor.Goals as goal
use Rattle.dullavane_listing.proofs.words.put_cursor.Goals.{In-Answered, In-Members, In-Requirement}

few : (k : In-Requirement) → k.in-Requirement.requirement < 65_536
few k = search rules

few_answered : (k : In-Answered) → k.in-Answered.requirement < 65_536
few_answered k = search rules

few_members : (k : In-Members) → let m = k.in-Members in (m.requirement < 65_536) × (m.row < 65_536) × (m.before < 65_536)
few_members k = (search rules, search rules, search rules)

pub returns-in-Interval : goal.returns-in-Interval
returns-in-Interval c =
    rw c.in-Interval.is (rw c.no_answer.ensures at c.put_words.ensures.0, tt)

pub returns-in-Requirement : goal.returns-in-Requirement
returns-in-Requirement c =
    rw c.in-Requirement.is (rw c.no_answer-in-Requirement.ensures at c.put_words-in-Requirement.ensures.0, few (goal.at.returns-in-Requirement c).In-Requirement)

pub returns-in-Answered : goal.returns-in-Answered
returns-in-Answered c =
    rw c.in-Answered.is (c.put_words-in-Answered.ensures.0, (few_answered (goal.at.returns-in-Answered c).In-Answered, c.put_words-in-Answered.ensures.1))

pub returns-in-Members : goal.returns-in-Members
returns-in-Members c =
    let few = few_members (goal.at.returns-in-Members c).In-Members in
    rw c.in-Members.is (c.put_words-in-Members.ensures.0, (few.0, c.put_words-in-Members.ensures.1, few.1, few.2))

use Rattle.keys.proofs.FetchedLaws.{told}
use Rattle.keys.proofs.keys_unchecked.Goals as goal

pub returns : goal.returns
returns g c =
    let a = c.args in
    told a.s.of a.pass a.chroma (g.C.Words.words a.cells) a.s.placed c.requires _ (rw c.turned_of.ensures at c.fetch.ensures) c.keys_by.result c.keys_by.ensures

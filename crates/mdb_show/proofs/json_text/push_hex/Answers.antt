-- The member of the bytes has their digits between its quotes.
use Rattle.mdb_show.proofs.Words.{rules, ◌++◌, codes, hex_text}
use Rattle.mdb_show.proofs.JsonLines.{hex_member, then_put}
use Rattle.mdb_show.proofs.ShowTexts.{had_more}
use Rattle.mdb_show.proofs.json_text.push_hex.Goals as goal

pub returns : goal.returns
returns c =
    had_more c.extend_from_slice-2.result _ _ _
    (codes ",\"bytes\":\"" ++ hex_text c.args.bytes.now) (codes "\"") _
    c.extend_from_slice-2.ensures.items
    (then_put _ _ _
    (codes
    ",\"bytes\":\"") (hex_text
    c.args.bytes.now) c.in_ok-extend_from_slice.ensures.items c.in_ok-push_spaced.ensures)
    (hex_member c.args.bytes.now (λ i. search (rules, c.type_inv.bytes i)))

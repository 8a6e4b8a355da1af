-- The picture's texts, as templates; above each, what its marks stand for.
use Prim.Native.String.{String, ◌++◌}

-- the picture's width, three times; colours of twelve matrices, what unused rows and zeros look like, the background
abbrev pub head_text : String
head_text =
    "<svg xmlns='http://www.w3.org/2000/svg' version='1.1' width='@' height='656' viewBox='0 0 @ 656' font-family='Helvetica, Arial, sans-serif' font-size='12' fill='#111111'>\n"
    ++ "<title>The plan of a list of matrices</title>\n"
    ++ "<style type='text/css'>\n"
    ++ ".edge1{stroke:#ffffff;stroke-width:2}\n"
    ++ ".number{font-weight:bold;text-anchor:middle}\n"
    ++ ".on0{fill:#ffffff}\n"
    ++ ".matrix0{fill:#332288} .matrix1{fill:#88ccee} .matrix2{fill:#117733} .matrix3{fill:#ddcc77}\n"
    ++ ".matrix4{fill:#882255} .matrix5{fill:#44bb99} .matrix6{fill:#4477aa} .matrix7{fill:#ee8866}\n"
    ++ ".matrix8{fill:#aa4499} .matrix9{fill:#bbcc33} .matrix10{fill:#994f00} .matrix11{fill:#ffaabb}\n"
    ++ "</style>\n"
    ++ "<defs>\n"
    ++ "<pattern id='unused' width='8' height='8' patternUnits='userSpaceOnUse' patternTransform='rotate(45)'><rect width='8' height='8' fill='#f2f2f2'/><rect width='2' height='8' fill='#999999'/></pattern>\n"
    ++ "<pattern id='zeros' width='8' height='8' patternUnits='userSpaceOnUse'><rect width='8' height='3' fill='#ffffff' fill-opacity='0.3'/></pattern>\n"
    ++ "</defs>\n"
    ++ "<rect width='@' height='656' fill='#ffffff'/>\n"

-- stack width, H, used cells, all cells, and the share in 100
abbrev pub sentence_text : String
sentence_text =
    "<text x='16' y='26' font-size='15' font-weight='bold'>Stack width @, H = @ rows,</text>\n"
    ++ "<text x='16' y='46' font-size='15' font-weight='bold'>@ of @ cells used (@ in 100, rounded down)</text>\n"

-- l_skip, n_stack, the number of trace columns, the last row
abbrev pub legend_text : String
legend_text =
    "<text x='16' y='68'>l_skip @, n_stack @, trace columns: @. A number in a bar is the matrix.</text>\n"
    ++ "<text x='16' y='86'>Hatched: unused rows. Striped: a short column, zeros between its cells.</text>\n"
    ++ "<text x='88' y='114' text-anchor='end'>row 0</text>\n"
    ++ "<text x='88' y='616' text-anchor='end'>row @</text>\n"
    ++ "<text x='88' y='640' text-anchor='end'>stack column</text>\n"

-- left edge and width of a bar
abbrev pub bar_text : String
bar_text = "<rect x='@' y='104' width='@' height='512' fill='url(#unused)'/>\n"

-- the middle of a bar, and its stack column
abbrev pub bar_number_text : String
bar_number_text = "<text class='number' x='@' y='640'>@</text>\n"

-- matrix, column, height, stack column, first and last row; colour and edge; left, top, width and height
abbrev pub part_text : String
part_text = "<g><title>matrix @, column @, height @: stack column @, rows @ to @</title><rect class='matrix@ edge@' x='@' y='@' width='@' height='@'/>"

-- left, top, width and height
abbrev pub stripes_text : String
stripes_text = "<rect fill='url(#zeros)' x='@' y='@' width='@' height='@'/>"

-- the colour of the number, its middle and its base line, and the matrix
abbrev pub label_text : String
label_text = "<text class='number on@' x='@' y='@'>@</text>"

-- no mark
abbrev pub part_end_text : String
part_end_text = "</g>\n"

-- no mark
abbrev pub end_text : String
end_text = "</svg>\n"

mod OpeningLines

mod Conclusions
